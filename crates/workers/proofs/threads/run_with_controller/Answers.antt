use Rattle.workers.proofs.Names.{sendable, crosses}
use Rattle.workers.proofs.Crosses.{post_send, stage_sync, tally_sync}
use Rattle.workers.proofs.threads.run_with_controller.Goals as goal

pub join-requires-send-F : goal.join-requires-send-F
join-requires-send-F g c κs within =
    search (sendable, crosses, post_send, stage_sync, tally_sync) depth 60

pub join-requires-send-A : goal.join-requires-send-A
join-requires-send-A g c κs within = search (sendable, crosses, post_send) depth 60
