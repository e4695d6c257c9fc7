use Rattle.run_workers.proofs.Records.PollingLemmas.{pollers_begin}
use Rattle.run_workers.proofs.record_laws.pollers_begin.Goals as goal

pub returns : goal.returns
returns c = pollers_begin
