-- The law on good histories without commands.
use Rattle.std.specs.Prelude.{ℕ, ◌≡◌, []}
use Rattle.history.specs.declared.history.History.{History}
use Rattle.steer_model.specs.Good.GoodHistory.{Clause, Good}
use Rattle.steer_model.specs.Good.Inputs.{Input}

-- Without commands a history is good if and only if each clause holds by itself.
abbrev pub GoodByClauses : Type 0
GoodByClauses =
    (i : Input) (h : History) → h.commands ≡ []
    → (Good i h → (n : ℕ) → Clause n i h) × (((n : ℕ) → Clause n i h) → Good i h)
