use Rattle.workers.proofs.Names.{sendable, crosses}
use Rattle.workers.proofs.start.SeatedWire.TheSendSync as wire
use Rattle.plan_reader.proofs.plan.Plan.TheSendSync as plan
use Rattle.workers.proofs.Crosses.{stage_sync}
use Rattle.workers.proofs.threads.run_beside.Goals as goal

pub join-requires-send-F : goal.join-requires-send-F
join-requires-send-F g c κs within =
    search (sendable, crosses, wire.the_send, plan.the_sync, stage_sync) depth 60
