-- What a seat's own steps imply about the order.
use Rattle.std.specs.Prelude.{◌≡◌, ℕ, ◌<◌, List}
use Rattle.linearization.specs.Orders.{StepBy, steps_of}
use Rattle.hop_rule.specs.Moments.{Did, IsStep, moment_of, past}
use Rattle.hop_rule.specs.declared.step.BoardStep.{BoardStep}

-- Each of a seat's own steps is a step of the order at its moment, the moments rise along the
-- seat's list, each step of the seat in the order is one of its list, and what the seat had done
-- before a step is its part of the order up to that moment.
pub record HasMoments {D : Type 0} (order : List (StepBy D)) (p : ℕ) : Type 0 where
  pub moment : (k : ℕ) (d : D) → Did order p k d → IsStep order (moment_of p order k) p d
  pub rise : (j k : ℕ) (d : D) → j < k → Did order p k d
      → moment_of p order j < moment_of p order k
  pub own : (n : ℕ) (d : D) → IsStep order n p d
      → (k : ℕ) × Did order p k d × (moment_of p order k ≡ n)
  pub before : (k : ℕ) (d : D) → Did order p k d
      → past k (steps_of p order) ≡ steps_of p (past (moment_of p order k) order)

-- In each order the steps of each seat's own list have moments, as `HasMoments` says.
abbrev pub OwnStepsHaveMoments : Type 0
OwnStepsHaveMoments = (order : List (StepBy BoardStep)) (p : ℕ) → HasMoments order p
