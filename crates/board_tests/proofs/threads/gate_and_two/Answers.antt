use denote.Param.Send.{sendable}
use Rattle.std.proofs.Crossing.{crosses}
use Rattle.board_api.proofs.Crosses.{seat_send}
use Rattle.hop_board.proofs.Crosses.{board_sync}
use Rattle.board_tests.proofs.threads.gate_and_two.Goals as goal

pub join-requires-send-F : goal.join-requires-send-F
join-requires-send-F g c κs within = search (sendable, crosses, board_sync, seat_send) depth 60

pub join-requires-send-A : goal.join-requires-send-A
join-requires-send-A g c κs within = search (sendable, crosses, seat_send) depth 60
