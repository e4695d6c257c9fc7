use Rattle.std.proofs.Common.{ℕ, ◌<◌, ◌≡◌, false}
use Rattle.steer_base.specs.Sets.{has}
use Rattle.hop_model.specs.Events.{IsEmptied}
use Rattle.hop_core.proofs.hop.Hop.is_empty_but.Given as goal

abbrev pub invariant-loop-lane : goal.invariant-loop-lane
invariant-loop-lane l = (c : ℕ) → c < l.lane → has l.online c ≡ false → IsEmptied l.self.bare c
