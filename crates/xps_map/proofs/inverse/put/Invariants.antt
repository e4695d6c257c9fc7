use Rattle.std.proofs.Common.{ℕ, ◌≡◌, ◌<◌, ◌^◌, length, true, not}
use Rattle.std.specs.Prelude.{◌&&◌}
use Rattle.steer_base.specs.Sets.{has, members}
use Rattle.xps_map.specs.Inverses.{Puts}
use Rattle.xps_map.proofs.inverse.put.Given as goal

abbrev pub invariant-loop-tx : goal.invariant-loop-tx
invariant-loop-tx l = record {
  done : Puts l.tx (λ place. has l.fn.places place && not (has l.rest place)) l.stands
      l.initial.sets
      l.sets;
  fits : l.rest.0 < 2 ^ 32;
  rest : (place : ℕ) → has l.rest place ≡ true → has l.fn.places place ≡ true;
}

abbrev pub decreases-loop-tx : goal.decreases-loop-tx
decreases-loop-tx l = length (members l.rest)
