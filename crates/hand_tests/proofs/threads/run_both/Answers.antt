use denote.Param.Send.{IsSend, sendable}
use Rattle.std.proofs.Crossing.{crosses}
use Rattle.linearization.proofs.seat.OrderedSeat.TheSendSync as ordered
use Rattle.board_api.proofs.Crosses.{seat_send}
use Rattle.hop_board.proofs.Crosses.{board_sync}
use Rattle.run_words.proofs.Crosses.{shared_sync}
use Rattle.run_workers.proofs.drain.Drain.TheSendSync as drain
use Rattle.run_workers.proofs.poller.Poller.TheSendSync as poller
use Rattle.hand_tests.specs.contracts.bench.Worker.{the_row as worker_row}
use Rattle.hand_tests.proofs.threads.run_both.Goals as goal

worker_send : IsSend worker_row
worker_send = search (
  sendable,
  crosses,
  poller.the_field_send,
  drain.the_field_send,
  seat_send,
  ordered.the_send,
) depth 60

pub join-requires-send-F : goal.join-requires-send-F
join-requires-send-F g c κs within =
    search (sendable, crosses, board_sync, worker_send, shared_sync) depth 60

pub join-requires-send-A : goal.join-requires-send-A
join-requires-send-A g c κs within = search (sendable, crosses, worker_send) depth 60
