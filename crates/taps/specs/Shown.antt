-- Which of the packet lines a tap is shown.
use Rattle.std.specs.Prelude.{ℕ, ◌==◌, ◌-◌, List, drop, filter, fold, length, map, min, take}
use Rattle.history.specs.declared.packet_line.PacketLine.{PacketLine}
use Rattle.steer_base.specs.declared.step.Detach.{Detach}
use Rattle.taps.specs.declared.feeding.Fed.{Fed}
use Rattle.taps.specs.declared.feeding.Fed.TheVariants.{Watching, Finished}

-- the least of a number and of the `after` of a tap's detachments
abbrev pub least_after : ℕ → List Detach → ℕ → ℕ
least_after tap detach count =
    fold (λ least after. min least after) count
    (map (λ d. d.after) (filter (λ d. d.tap == tap) detach))

-- the lines that a tap is shown: all, or only the first ones if it is detached
abbrev pub shown_to : ℕ → List Detach → List PacketLine → List PacketLine
shown_to tap detach lines = take (least_after tap detach (length lines)) lines

-- of the first `count` lines, those from a packet on
abbrev pub lines_left : ℕ → ℕ → List PacketLine → List PacketLine
lines_left count id lines = take (count - id) (drop id lines)

-- the text of a watching tap, as told of it and its number of lines, or that of a finished one
abbrev pub text_of : {T : Type 0} → (T → ℕ → List ℕ) → Fed T → List ℕ
text_of told (Watching tap count) = told tap count
text_of told (Finished text) = text
