use Rattle.std.proofs.Common.{◌≡◌, ◌++◌, List, length, map}
use Rattle.std.specs.List.{enumerate_from}
use Rattle.history.specs.declared.packet_line.PacketLine.{PacketLine}
use Rattle.taps.specs.Shown.{lines_left, shown_to, text_of}
use Rattle.taps.proofs.feeding.counted.Given as goal

-- what the counted taps and the taps left mean is what all taps mean
abbrev pub invariant-loop-tap : goal.invariant-loop-tap
invariant-loop-tap g l =
    (lines : List PacketLine) → l.arrived ≡ length lines
    → map (text_of (λ tap count. (g.dyn-1.0.entry tap.vtable).1.text tap.value
    (lines_left count 0 lines))) l.fed.items
    ++ map (λ p. (g.dyn-1.0.entry p.1.vtable).1.text p.1.value (shown_to p.0 l.detach lines))
    (enumerate_from (length l.fed.items) l.tap-iterator.rest.items)
    ≡ map (λ p. (g.dyn-1.0.entry p.1.vtable).1.text p.1.value (shown_to p.0 l.detach lines))
    (enumerate_from 0 l.fn.taps.items)
