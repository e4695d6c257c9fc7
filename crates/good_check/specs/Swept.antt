-- When a packet that arrived has come to its end.
use Rattle.std.specs.Prelude.{ℕ, Bool, ◌&&◌, ◌==◌, is_some, if◌then◌else◌, length}
use Rattle.steer_base.specs.Entries.{place_in}
use Rattle.history.specs.Finding.{first_some}
use Rattle.history.specs.Lines.{drop_in, first_reply_to, inbox_place_of}
use Rattle.history.specs.declared.history.History.{History}
use Rattle.history.specs.declared.lane_list.LaneList.{LaneList}

-- whether a packet was dropped, or is in an inbox, was replied to, and left by the port
abbrev pub has_ended : History → ℕ → Bool
has_ended h x =
    if is_some (inbox_place_of h x)
    then is_some (first_reply_to h x) && is_some (place_in x h.port)
    else is_some (first_some (drop_in x) h.lanes)

-- whether a lane pulled, delivered and retired all that it accepted
abbrev pub is_done : LaneList → Bool
is_done lane =
    ((lane.pulled == length lane.accepted) && (lane.delivered == length lane.accepted))
    && (lane.retired == length lane.accepted)
