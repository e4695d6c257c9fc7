-- The text of a depth tap that has seen some positions.
use Rattle.std.specs.Prelude.{ℕ, List, None, slice_index_or}
use Rattle.history.specs.declared.packet_line.PacketLine.{PacketLine}
use Rattle.taps.specs.Positions.{depth_after, depth_row, positions_at}
use Rattle.taps.specs.Rows.{each_cpu}
use Rattle.taps.specs.declared.depth.Depth.{Depth}

-- the text of a depth tap after these further lines
abbrev pub depths_after : Depth → List PacketLine → List ℕ
depths_after tap lines =
    each_cpu
    (λ cpu. depth_row cpu
    (depth_after (slice_index_or tap.depths cpu None) (positions_at cpu lines)))
