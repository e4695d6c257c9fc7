use Rattle.run_workers.proofs.Records.ReplyingLemmas.{servers_begin}
use Rattle.run_workers.proofs.record_laws.servers_begin.Goals as goal

pub returns : goal.returns
returns c = servers_begin
