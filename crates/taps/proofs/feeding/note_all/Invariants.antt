use Rattle.std.proofs.Common.{ℕ, ◌≡◌, ◌+◌, ◌<◌, List, length, map}
use Rattle.std.specs.Prelude.{slice_index_or}
use Rattle.history.specs.declared.packet_line.PacketLine.{PacketLine}
use Rattle.taps.specs.Shown.{lines_left, text_of}
use Rattle.taps.proofs.ShownLemmas.{partly}
use Rattle.taps.proofs.feeding.note_all.Given as goal

-- the taps before `i` were shown the line, those from `i` on were not
abbrev pub invariant-loop-i : goal.invariant-loop-i
invariant-loop-i g l = record {
  count : length l.fed ≡ length l.fn.fed;
  texts : (lines : List PacketLine) → l.id < length lines
      → l.line ≡ slice_index_or lines l.id l.line
      → partly (text_of (λ tap count. (g.dyn-1.0.entry tap.vtable).1.text tap.value
      (lines_left count (l.id + 1) lines)))
      (text_of (λ tap count. (g.dyn-1.0.entry tap.vtable).1.text tap.value
      (lines_left count l.id lines))) l.i l.fed
      ≡ map (text_of (λ tap count. (g.dyn-1.0.entry tap.vtable).1.text tap.value
      (lines_left count l.id lines))) l.fn.fed;
}
