use Rattle.run_workers.proofs.Records.AddedLemmas.{calls_add_steps}
use Rattle.run_workers.proofs.record_laws.calls_add_steps.Goals as goal

pub returns : goal.returns
returns c = calls_add_steps
