-- The first clause of the good history that a history fails.
use Rattle.std.specs.Prelude.{ℕ, ◌≡◌, ◌≤◌, ◌<◌, ◌⊎◌, []}
use Rattle.history.specs.declared.history.History.{History}
use Rattle.steer_model.specs.Good.GoodHistory.{Clause}
use Rattle.steer_model.specs.Good.Inputs.{Input}

-- Each clause before this one holds.
abbrev pub HoldBefore : ℕ → Input → History → Type 0
HoldBefore n i h = (m : ℕ) → 1 ≤ m → m < n → Clause m i h

-- Clause n fails, and each one before it holds.
pub record FirstFault (n : ℕ) (i : Input) (h : History) : Type 0 where
  pub within : (1 ≤ n) × (n ≤ 11)
  pub fault : Clause n i h → ⊥
  pub before : HoldBefore n i h

-- For a plan without commands: 10 if the history has a command, otherwise the first clause that it
-- fails.
abbrev pub HasFirstFault : Input → History → ℕ → Type 0
HasFirstFault i h n =
    ((h.commands ≡ [] → ⊥) × (n ≡ 10)) ⊎ ((h.commands ≡ []) × FirstFault n i h)

-- It has no command, and fails no clause.
abbrev pub HasNoFault : Input → History → Type 0
HasNoFault i h = (h.commands ≡ []) × ((n : ℕ) → Clause n i h)
