-- How the lists of a seat grow while its actors go on. Lists have the newest first.
use Rattle.std.specs.Prelude.{◌≡◌, ◌⊎◌, ℕ, List, ◌∷◌, ◌++◌, Option, Some, None, []}
use Rattle.linearization.specs.Orders.{StepBy, step_by}

-- The second list is the first with what came later.
abbrev pub Grows : {A : Type 0} → List A → List A → Type 0
Grows {A} before after = (newer : List A) × (after ≡ newer ++ before)

-- The turns, marks or notes of a seat are as before, or have one more of the producer a.
abbrev pub TurnsGrow : {A : Type 0} → ℕ → List (StepBy A) → List (StepBy A) → Type 0
TurnsGrow {A} a turns more = (more ≡ turns) ⊎ ((u : A) × (more ≡ step_by a u ∷ turns))

-- the packet in a hand, as a list
abbrev pub held : Option ℕ → List ℕ
held None = []
held (Some id) = id ∷ []
