use Rattle.std.proofs.Common.{ℕ, ◌<◌}
use Rattle.hop_model.specs.Events.{IsEmptied}
use Rattle.hop_core.proofs.hop.Hop.is_empty.Given as goal

abbrev pub invariant-loop-lane : goal.invariant-loop-lane
invariant-loop-lane l = (c : ℕ) → c < l.lane → IsEmptied l.self.bare c
