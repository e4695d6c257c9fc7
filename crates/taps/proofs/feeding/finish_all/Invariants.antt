use Rattle.std.proofs.Common.{◌≡◌, ◌++◌, [], map}
use Rattle.taps.specs.Shown.{text_of}
use Rattle.taps.proofs.feeding.finish_all.Given as goal

-- the texts so far and those of the taps left are all texts
abbrev pub invariant-loop-one : goal.invariant-loop-one
invariant-loop-one g l =
    l.texts.items
    ++ map (text_of (λ tap count. (g.dyn-1.0.entry tap.vtable).1.text tap.value []))
    l.one-iterator.rest.items
    ≡ map (text_of (λ tap count. (g.dyn-1.0.entry tap.vtable).1.text tap.value [])) l.fn.fed.items
