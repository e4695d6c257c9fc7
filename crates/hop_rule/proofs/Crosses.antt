-- What is in a slot of the board may go to another thread.
use denote.Param.Send.{IsSend, sendable}
use Rattle.std.proofs.Crossing.{crosses}
use Rattle.backlog.proofs.Crosses.{lane_send}
use Rattle.hop_rule.specs.contracts.step.Slot.{the_row}
use Rattle.hop_rule.proofs.out_lane.OutLane.TheSendSync as out

pub slot_send : IsSend the_row
slot_send = search (sendable, crosses, lane_send, out.the_send) depth 60
