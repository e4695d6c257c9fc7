-- Whether a packet is among the delivered ones of its lane, by what is known of it.
use Rattle.std.specs.Prelude.{ℕ, Bool, false, List, Option, Some, None, nat_le, slice_index_or}
use Rattle.history.specs.Lists.{lane_at}
use Rattle.history.specs.declared.known.Known.{Known}
use Rattle.history.specs.declared.lane_list.LaneList.{LaneList}

-- whether a packet with this own lane and place is among the delivered ones of its lane
abbrev pub is_delivered_by : List LaneList → Option ℕ → Option ℕ → Bool
is_delivered_by lanes None place = false
is_delivered_by lanes (Some own) None = false
is_delivered_by lanes (Some own) (Some place) = nat_le place (lane_at lanes own).delivered

-- the same of a packet of which this is known
abbrev pub is_delivered_in : List LaneList → Known → ℕ → Bool
is_delivered_in lanes known x =
    is_delivered_by lanes (slice_index_or known.lanes x None)
    (slice_index_or known.accepted x None)
