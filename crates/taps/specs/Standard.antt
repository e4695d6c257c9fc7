-- The taps of the program and their texts.
use Rattle.std.specs.Prelude.{ℕ, List, [], ◌∷◌}
use Rattle.history.specs.declared.packet_line.PacketLine.{PacketLine}
use Rattle.taps.specs.Cpus.{per_cpu_text}
use Rattle.taps.specs.Depth.{depths_after}
use Rattle.taps.specs.Flows.{per_flow_text}
use Rattle.taps.specs.PerCpu.{per_cpu_after}
use Rattle.taps.specs.PerFlow.{flows_after}
use Rattle.taps.specs.Positions.{depth_text}
use Rattle.taps.specs.declared.standard.StandardTap.{StandardTap}
use Rattle.taps.specs.declared.standard.StandardTap.TheVariants.{PerCpu, PerFlow, Depth}

-- the text that a tap of the program would give after these further lines
abbrev pub text_after : StandardTap → List PacketLine → List ℕ
text_after (PerCpu tap) lines = per_cpu_after tap lines
text_after (PerFlow tap) lines = flows_after tap lines
text_after (Depth tap) lines = depths_after tap lines

-- the texts of the program's taps for these lines: packets per processor, packets per flow, and
-- depth per processor
abbrev pub standard_texts : List PacketLine → List (List ℕ)
standard_texts lines = per_cpu_text lines ∷ per_flow_text lines ∷ depth_text lines ∷ []
