-- What the choices of a history are made by.
use Rattle.std.specs.Prelude.{ℕ}
use Rattle.history.specs.declared.history.History.{History}
use Rattle.steer_model.specs.Good.Choices.{AreByRule, WantsAreWritten}
use Rattle.steer_model.specs.Good.Replies.{RepliesAreByRule}
use Rattle.steer_model.specs.Good.Inputs.{Input}
use Rattle.steer_properties.specs.Choices.Moves.{FlowsChangeAsSaid, FlowsMoveAsSaid}

-- Each choice of each receive queue is by the rule after some number of commands, and a want that
-- it kept was written; so flows change their processor by the three conditions.
pub record AreChosen (i : Input) (h : History) : Type 0 where
  pub at : ℕ → ℕ → ℕ
  pub choices : AreByRule i h at
  pub wants : WantsAreWritten i h at
  pub moves : FlowsMoveAsSaid i h at

-- Each reply is to the next packet of its inbox and keeps a processor of its application; its
-- choice is by the rule after some number of commands, and replies leave in order; so flows change
-- their transmit queue by the three conditions.
pub record AreReplied (i : Input) (h : History) : Type 0 where
  pub at : ℕ → ℕ → ℕ
  pub replies : RepliesAreByRule i h at
  pub changes : FlowsChangeAsSaid i h at
