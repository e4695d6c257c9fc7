-- A board may go to another thread, and be lent to each.
use denote.Param.Send.{IsSend, IsSync, sendable}
use Rattle.std.proofs.Crossing.{crosses}
use Rattle.std.proofs.alloc.Global.TheSendSync as global
use Rattle.atomic_table.proofs.owned.Table.TheSendSync as table
use Rattle.hop_rule.proofs.Crosses.{slot_send}
use Rattle.hop_rule.proofs.sizes.BoardSizes.TheSendSync as sizes
use Rattle.hop_board.proofs.spare.Spare.TheSendSync as spare
use Rattle.hop_board.specs.contracts.board.Board.{the_row}

pub board_send : IsSend the_row
board_send = search (
  sendable,
  crosses,
  table.the_field_send,
  slot_send,
  global.the_send,
  sizes.the_field_send,
  spare.the_field_send,
) depth 60

pub board_sync : IsSync the_row
board_sync = search (
  sendable,
  crosses,
  table.the_field_sync,
  slot_send,
  global.the_send,
  global.the_sync,
  sizes.the_field_sync,
  spare.the_field_sync,
) depth 60
