-- A seat at a board may go to another thread.
use denote.Param.Send.{IsSend, sendable}
use Rattle.std.proofs.Crossing.{crosses}
use Rattle.linearization.proofs.seat.OrderedSeat.TheSendSync as ordered
use Rattle.hop_rule.proofs.Crosses.{slot_send}
use Rattle.board_api.specs.contracts.board_seat.BoardSeat.{the_row}

pub seat_send : IsSend the_row
seat_send = search (sendable, crosses, ordered.the_send, slot_send) depth 60
