-- Steps of numbered seats in one order. Orders and lists of steps have the newest first.
use Rattle.std.specs.Prelude.{ℕ, ◌<◌, ◌==◌, List, [], ◌∷◌, if◌then◌else◌, All}

-- A step with the number of the seat that made it.
pub record StepBy (D : Type 0) : Type 0 where
  pub by : ℕ
  pub step : D

module _ {D : Type 0} where
  -- The step made by the seat with this number.
  abbrev pub step_by : ℕ → D → StepBy D
  step_by p d = record { by = p; step = d }

  -- The steps of an order that the seat p made, the newest first.
  abbrev pub steps_of : ℕ → List (StepBy D) → List D
  steps_of p [] = []
  steps_of p (e ∷ es) = if e.by == p then e.step ∷ steps_of p es else steps_of p es

  -- Each step of the order was made by a seat with a number below this one.
  abbrev pub AreBySeats : ℕ → List (StepBy D) → Type 0
  AreBySeats seats order = All (λ (e : StepBy D). e.by < seats) order
