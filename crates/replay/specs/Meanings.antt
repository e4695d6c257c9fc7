-- The texts of the taps of a replay.
use Rattle.std.specs.Prelude.{ℕ, List, map}
use Rattle.std.specs.List.{enumerate_from}
use Rattle.history.specs.declared.packet_line.PacketLine.{PacketLine}
use Rattle.steer_base.specs.declared.step.Detach.{Detach}
use Rattle.taps.specs.Shown.{shown_to}

-- What a tap means: for each list of further lines the text that it would give after them.
abbrev pub Meaning : Type 0
Meaning = List PacketLine → List ℕ

-- The text of each tap, of the lines up to the least `after` of its detachings.
abbrev pub texts_of : List Meaning → List Detach → List PacketLine → List (List ℕ)
texts_of taps detach lines = map (λ p. p.1 (shown_to p.0 detach lines)) (enumerate_from 0 taps)
