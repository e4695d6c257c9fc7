-- Moments of an order: the moment of a step is the number of steps before it.
use Rattle.std.specs.Prelude.{◌≡◌, ℕ, suc, ◌-◌, ◌==◌, List, [], ◌∷◌, Option, Some, None}
use Rattle.std.specs.Prelude.{length, drop, if◌then◌else◌}
use Rattle.linearization.specs.Orders.{StepBy, step_by, steps_of}

-- The first n steps of an order, or of a seat's own list.
abbrev pub past : {X : Type 0} → ℕ → List X → List X
past n xs = drop (length xs - n) xs

-- The step of a list that has k steps before it, if there is one.
abbrev pub nth_step : {X : Type 0} → List X → ℕ → Option X
nth_step [] k = None
nth_step (x ∷ xs) k = if length xs == k then Some x else nth_step xs k

module _ {D : Type 0} where
  -- At the moment n this step of the seat p comes.
  abbrev pub IsStep : List (StepBy D) → ℕ → ℕ → D → Type 0
  IsStep order n p d = past (suc n) order ≡ step_by p d ∷ past n order

  -- The moment of the k-th of a seat's own steps, from 0.
  abbrev pub moment_of : ℕ → List (StepBy D) → ℕ → ℕ
  moment_of p [] k = 0
  moment_of p (e ∷ es) k =
      if e.by == p then (if length (steps_of p es) == k then length es else moment_of p es k)
      else moment_of p es k

  -- The k-th of the seat's own steps, from 0, is this one.
  abbrev pub Did : List (StepBy D) → ℕ → ℕ → D → Type 0
  Did order p k d = nth_step (steps_of p order) k ≡ Some d
