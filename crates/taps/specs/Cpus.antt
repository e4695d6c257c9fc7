-- The text of a tap that counts the packets of each processor.
use Rattle.std.specs.Prelude.{ℕ, ◌==◌, Bool, false, List, [], Option, Some, None, codes, count_by}
use Rattle.std.specs.Prelude.{if◌then◌else◌}
use Rattle.history.specs.declared.packet_line.PacketLine.{PacketLine}
use Rattle.steer_base.specs.declared.choice.Choice.{Choice}
use Rattle.taps.specs.Rows.{each_cpu, row}

-- whether a choice is this processor
abbrev pub is_of : ℕ → Option Choice → Bool
is_of cpu None = false
is_of cpu (Some choice) = choice.lane == cpu

-- the number of lines whose choice is the processor
abbrev pub chosen_for : ℕ → List PacketLine → ℕ
chosen_for cpu lines = count_by (λ line. is_of cpu line.choice) lines

-- the text line of a processor with `count` packets, empty if it has none
abbrev pub cpu_count_line : ℕ → ℕ → List ℕ
cpu_count_line cpu count = if count == 0 then [] else row (codes "cpu ") cpu
    (codes " packets ") count

-- the text of a per-processor tap: for each processor, ascending, the number of lines whose choice
-- it is, if there are any
abbrev pub per_cpu_text : List PacketLine → List ℕ
per_cpu_text lines = each_cpu (λ cpu. cpu_count_line cpu (chosen_for cpu lines))
