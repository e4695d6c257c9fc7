use Rattle.run_workers.proofs.Records.StoringLemmas.{applications_store}
use Rattle.run_workers.proofs.record_laws.applications_store_writes.Goals as goal

pub returns : goal.returns
returns c = applications_store
