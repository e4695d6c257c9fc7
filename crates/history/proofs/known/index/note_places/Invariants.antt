use Rattle.std.proofs.Common.{◌≡◌, ◌+◌, drop}
use Rattle.history.specs.Index.{noted_by}
use Rattle.history.proofs.known.index.note_places.Given as goal

abbrev pub invariant-loop-i : goal.invariant-loop-i
invariant-loop-i l = noted_by (λ x. x) (λ i x. i + 1) l.i l.index (drop l.i l.list) ≡ noted_by
    (λ x. x) (λ i x. i + 1) 0 l.fn.index l.list
