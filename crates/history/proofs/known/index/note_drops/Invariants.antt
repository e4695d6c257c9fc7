use Rattle.std.proofs.Common.{◌≡◌, ◌+◌, drop}
use Rattle.steer_base.specs.declared.put.Put.TheVariants.{Dropped}
use Rattle.history.specs.Index.{noted_by}
use Rattle.history.proofs.known.index.note_drops.Given as goal

abbrev pub invariant-loop-i : goal.invariant-loop-i
invariant-loop-i l =
    noted_by (λ d. d.id) (λ i d. Dropped (i + 1) d.accepted d.pulled d.cause) l.i l.index
    (drop l.i l.list)
    ≡ noted_by (λ d. d.id) (λ i d. Dropped (i + 1) d.accepted d.pulled d.cause) 0 l.fn.index l.list
