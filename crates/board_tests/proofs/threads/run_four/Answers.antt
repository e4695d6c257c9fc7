use denote.Param.Send.{IsSend, sendable}
use Rattle.std.proofs.Crossing.{crosses}
use Rattle.board_api.proofs.Crosses.{seat_send}
use Rattle.hop_board.proofs.Crosses.{board_sync}
use Rattle.board_tests.specs.contracts.worker.Worker.{the_row}
use Rattle.board_tests.proofs.notes.Notes.TheSendSync as notes
use Rattle.board_tests.proofs.threads.run_four.Goals as goal

worker_send : IsSend the_row
worker_send = search (sendable, crosses, seat_send, notes.the_field_send) depth 60

pub join-requires-send-F : goal.join-requires-send-F
join-requires-send-F g c κs within = search (sendable, crosses, board_sync, worker_send) depth 60

pub join-requires-send-A : goal.join-requires-send-A
join-requires-send-A g c κs within = search (sendable, crosses, worker_send) depth 60
