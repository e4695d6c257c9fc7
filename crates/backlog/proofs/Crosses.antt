-- A lane may go to another thread.
use denote.Param.Send.{IsSend, sendable}
use Rattle.std.proofs.Crossing.{crosses}
use Rattle.backlog.proofs.queue.Queue.TheSendSync as queue
use Rattle.backlog.proofs.window.Window.TheSendSync as window
use Rattle.backlog.specs.contracts.buckets.Buckets.{the_row as buckets_row}
use Rattle.backlog.specs.contracts.lane_offers.LaneOffers.{the_row as offers_row}
use Rattle.backlog.specs.contracts.lane.Lane.{the_row as lane_row}
use Rattle.backlog.specs.contracts.lane.Parts.{the_row as parts_row}

buckets_send : IsSend buckets_row
buckets_send = search (sendable, crosses) depth 60

offers_send : IsSend offers_row
offers_send = search (sendable, crosses, buckets_send, window.the_send) depth 60

parts_send : IsSend parts_row
parts_send = search (sendable, crosses, offers_send, queue.the_send) depth 60

pub lane_send : IsSend lane_row
lane_send = search (sendable, crosses, parts_send) depth 60
