-- A lane that was found empty, by the moments of an order.
use Rattle.std.specs.Prelude.{◌≡◌, ℕ, ◌/◌, ◌%◌, ◌^◌, ◌<◌, List}
use Rattle.linearization.specs.Orders.{StepBy}
use Rattle.hop_rule.specs.Moments.{IsStep}
use Rattle.hop_rule.specs.Sizes.{closer}
use Rattle.hop_rule.specs.declared.sizes.BoardSizes.{BoardSizes}
use Rattle.hop_rule.specs.declared.step.BoardStep.{BoardStep}
use Rattle.hop_rule.specs.declared.step.BoardStep.TheVariants.{Gate, Weighed, Counted}
use Rattle.hop_rule.specs.declared.step.GateStep.TheVariants.{Shut, Opened}

-- Before the moment n the closer found the lane l empty: it had closed the gate and did not open it
-- until n, and meanwhile it loaded the lane's head and then its tail, which were one counter
-- number.
pub record WasEmptied (about : BoardSizes) (order : List (StepBy BoardStep)) (n l : ℕ)
    : Type 0 where
  pub shut : ℕ
  pub weighed : ℕ
  pub counted : ℕ
  pub word : ℕ
  pub head : ℕ
  pub tail : ℕ
  pub after_shut : shut < weighed
  pub after_weighed : weighed < counted
  pub before : counted < n
  pub shuts : IsStep order shut (closer about) (Gate (Shut word))
  pub weighs : IsStep order weighed (closer about) (Weighed l head)
  pub counts : IsStep order counted (closer about) (Counted l tail)
  pub equal : head % 2 ^ 32 ≡ (tail / 2) % 2 ^ 32
  pub stays : (m : ℕ) → shut < m → m < n → IsStep order m (closer about) (Gate Opened) → ⊥
