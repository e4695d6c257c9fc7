use Rattle.std.proofs.Common.{◌≡◌, map}
use Rattle.std.specs.List.{enumerate_from}
use Rattle.taps.specs.Shown.{lines_left, shown_to, text_of}
use Rattle.taps.proofs.feeding.feed.Given as goal

-- the lines are still those, and what the taps mean for their lines left is what they meant for all
-- of them
abbrev pub invariant-loop-id : goal.invariant-loop-id
invariant-loop-id g l = record {
  packets : l.packets ≡ l.fn.lines.packets;
  texts : map (text_of (λ tap count. (g.dyn-1.0.entry tap.vtable).1.text tap.value
      (lines_left count l.id l.fn.lines.packets))) l.fed.items
      ≡ map (λ p. (g.dyn-1.0.entry p.1.vtable).1.text p.1.value
      (shown_to p.0 l.detach l.fn.lines.packets)) (enumerate_from 0 l.fn.taps.items);
}
