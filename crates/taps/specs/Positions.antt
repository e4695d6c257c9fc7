-- The text of a tap that reports the greatest position of each processor's backlog.
use Rattle.std.specs.Prelude.{ℕ, ◌==◌, List, [], ◌∷◌, Option, Some, None, codes, if◌then◌else◌}
use Rattle.std.specs.List.{filter_map}
use Rattle.history.specs.declared.packet_line.PacketLine.{PacketLine}
use Rattle.steer_base.specs.Counters.{has_reached}
use Rattle.steer_base.specs.declared.choice.Choice.{Choice}
use Rattle.steer_base.specs.declared.put.Put.{Put}
use Rattle.steer_base.specs.declared.put.Put.TheVariants.{At, Dropped}
use Rattle.taps.specs.Rows.{each_cpu, row}

-- the position at this processor, if the packet was accepted there
abbrev pub accepted_at : ℕ → Option Choice → Option Put → Option ℕ
accepted_at cpu (Some choice) (Some (At position)) =
    if choice.lane == cpu then Some position else None
accepted_at cpu (Some choice) (Some (Dropped number accepted pulled cause)) = None
accepted_at cpu (Some choice) None = None
accepted_at cpu None put = None

-- the positions at this processor, in the order of the lines
abbrev pub positions_at : ℕ → List PacketLine → List ℕ
positions_at cpu lines = filter_map (λ line. accepted_at cpu line.choice line.put) lines

-- A depth after one more position, which replaces it if it has reached it. Positions are counter
-- numbers, which wrap.
abbrev pub deepened : Option ℕ → ℕ → Option ℕ
deepened None position = Some position
deepened (Some depth) position = if has_reached position depth 0 then Some position else Some depth

-- a depth after these positions
abbrev pub depth_after : Option ℕ → List ℕ → Option ℕ
depth_after depth [] = depth
depth_after depth (position ∷ positions) = depth_after (deepened depth position) positions

-- the text line of a processor with this depth, empty if it accepted nothing
abbrev pub depth_row : ℕ → Option ℕ → List ℕ
depth_row cpu None = []
depth_row cpu (Some depth) = row (codes "depth cpu ") cpu (codes " at ") depth

-- the text of a depth tap: for each processor that accepted a packet, ascending, its greatest
-- position
abbrev pub depth_text : List PacketLine → List ℕ
depth_text lines = each_cpu (λ cpu. depth_row cpu (depth_after None (positions_at cpu lines)))
