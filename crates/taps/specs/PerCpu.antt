-- The text of a per-processor tap that has counted some packets.
use Rattle.std.specs.Prelude.{ℕ, ◌+◌, List, slice_index}
use Rattle.history.specs.declared.packet_line.PacketLine.{PacketLine}
use Rattle.taps.specs.Cpus.{chosen_for, cpu_count_line}
use Rattle.taps.specs.Rows.{each_cpu}
use Rattle.taps.specs.declared.per_cpu.PerCpu.{PerCpu}

-- the text of a per-processor tap after these further lines
abbrev pub per_cpu_after : PerCpu → List PacketLine → List ℕ
per_cpu_after tap lines =
    each_cpu (λ cpu. cpu_count_line cpu (slice_index tap.counts cpu + chosen_for cpu lines))
