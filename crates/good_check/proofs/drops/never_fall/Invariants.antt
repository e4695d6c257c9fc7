use Rattle.std.proofs.Common.{ℕ, ◌+◌, ◌≤◌, ◌<◌, ◌≡◌, Some, slice_get}
use Rattle.steer_base.specs.declared.put.LaneDrop.{LaneDrop}
use Rattle.good_check.proofs.drops.never_fall.Given as goal

abbrev pub invariant-loop-k : goal.invariant-loop-k
invariant-loop-k l = (k : ℕ) (d e : LaneDrop) → k + 1 < l.k → slice_get l.drops k ≡ Some d
    → slice_get l.drops (k + 1) ≡ Some e → (d.accepted ≤ e.accepted) × (d.pulled ≤ e.pulled)
