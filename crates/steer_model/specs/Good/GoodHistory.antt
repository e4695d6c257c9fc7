-- When a history is one of a plan and a capture, whoever made it: eleven clauses, each under its
-- own name. Where a clause needs to know which commands a choice was made after, it takes their
-- number as `at`: of each list, for each choice.
use Rattle.std.specs.Prelude.{ℕ, ◌≡◌}
use Rattle.history.specs.declared.history.History.{History}
use Rattle.steer_model.specs.Good.Arrivals.{HasArrived, QueuesAreSeen}
use Rattle.steer_model.specs.Good.Choices.{ChoicesAreByRule, HeadsAreRising, WantsAreWritten}
use Rattle.steer_model.specs.Good.Commands.{CommandsAreGiven}
use Rattle.steer_model.specs.Good.Deliveries.{IsSteered, IsSwept}
use Rattle.steer_model.specs.Good.Drops.{DropsAreExplained}
use Rattle.steer_model.specs.Good.Replies.{RepliesAreByRule}
use Rattle.steer_model.specs.Good.Writes.{WritesAreRight}
use Rattle.steer_model.specs.Good.Inputs.{Input}

-- A history is good: the eleven clauses of what a run over this input may be.
pub record Good (i : Input) (h : History) : Type 0 where
  pub at : ℕ → ℕ → ℕ
  pub tx_at : ℕ → ℕ → ℕ
  pub arrived : HasArrived i h
  pub queues : QueuesAreSeen i h
  pub choices : ChoicesAreByRule i h at
  pub wants : WantsAreWritten i h at
  pub heads : HeadsAreRising h
  pub drops : DropsAreExplained i h
  pub steered : IsSteered i h
  pub swept : IsSwept h
  pub writes : WritesAreRight i h
  pub commands : CommandsAreGiven i h
  pub replies : RepliesAreByRule i h tx_at

-- ---- without commands every prefix is empty, and each clause can be asked by its number

-- the counts of commands before each choice, if there are no commands
abbrev pub never : ℕ → ℕ → ℕ
never list k = 0

-- the clause of a good history with this number, if no command was given
pub record Clause (n : ℕ) (i : Input) (h : History) : Type 0 where
  pub arrived : n ≡ 1 → HasArrived i h
  pub queues : n ≡ 2 → QueuesAreSeen i h
  pub choices : n ≡ 3 → ChoicesAreByRule i h never
  pub wants : n ≡ 4 → WantsAreWritten i h never
  pub heads : n ≡ 5 → HeadsAreRising h
  pub drops : n ≡ 6 → DropsAreExplained i h
  pub steered : n ≡ 7 → IsSteered i h
  pub swept : n ≡ 8 → IsSwept h
  pub writes : n ≡ 9 → WritesAreRight i h
  pub commands : n ≡ 10 → CommandsAreGiven i h
  pub replies : n ≡ 11 → RepliesAreByRule i h never
