-- The history of the parts of a machine that it keeps.
use Rattle.hop_core.specs.declared.left.LeftLane.{LeftLane}
use Rattle.history.specs.declared.history.History.{History}
use Rattle.history.specs.declared.lane_list.LaneList.{LaneList}
use Rattle.steer_core.specs.HistoryParts.{hop_part, joined_history}
use Rattle.steer_core.specs.declared.kept.Beside.{Beside}
use Rattle.steer_core.specs.declared.kept.Kept.{Kept}
use Rattle.steer_core.specs.declared.parts.BesidePart.{BesidePart}

-- what a history keeps of a lane
abbrev pub kept_lane : LeftLane → LaneList
kept_lane lane =
    record {
      accepted = lane.accepted;
      drops = lane.drops;
      pulled = lane.pulled;
      delivered = lane.delivered;
      retired = lane.retired;
    }

-- what a history has of the lists beside the hops
abbrev pub kept_beside : Beside → BesidePart
kept_beside beside =
    record {
      arrivals = beside.arrivals.items;
      sent = beside.sent.lists;
      writes = beside.writes.lists;
      commands = beside.commands.items;
    }

-- the history of the parts that it keeps
abbrev pub kept_history : Kept → History
kept_history kept =
    joined_history (record {
      total = kept.total;
      cut = kept.cut;
      rx = hop_part kept.rx;
      tx = hop_part kept.tx;
      beside = kept_beside kept.beside;
    })
