-- The history of a replay meets, in every state, each clause of a good history that does not ask
-- that the run is over.
use Rattle.std.specs.Prelude.{ℕ}
use Rattle.history.specs.declared.history.History.{History}
use Rattle.steer_model.specs.Good.Arrivals.{QueuesAreSeen}
use Rattle.steer_model.specs.Good.Choices.{AreByRule, HeadsAreRising, WantsAreWritten}
use Rattle.steer_model.specs.Good.Deliveries.{IsSteered}
use Rattle.steer_model.specs.Good.Drops.{DropsAreExplained}
use Rattle.steer_model.specs.Good.Replies.{RepliesAreByRule}
use Rattle.steer_model.specs.Good.Inputs.{Input}
use Rattle.steer_properties.specs.Commands.Answered.{AreAnswered, WritesAreMade}

-- The history of a replay in any state: each clause of a good history that does not ask that the
-- run is over.
pub record GoodSoFar (i : Input) (h : History) : Type 0 where
  pub at : ℕ → ℕ → ℕ
  pub tx_at : ℕ → ℕ → ℕ
  pub queues : QueuesAreSeen i h
  pub choices : AreByRule i h at
  pub wants : WantsAreWritten i h at
  pub heads : HeadsAreRising h
  pub drops : DropsAreExplained i h
  pub steered : IsSteered i h
  pub writes : WritesAreMade i h
  pub commands : AreAnswered i h
  pub replies : RepliesAreByRule i h tx_at
