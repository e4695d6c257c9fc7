-- The choices for replies, for the eleventh clause of a good history.
use Rattle.std.specs.Prelude.{◌≡◌, ℕ, ◌/◌, ◌^◌, ◌<◌, List, Some, length, slice_get, All}
use Rattle.history.specs.Lists.{list_at}
use Rattle.history.specs.declared.history.History.{History}
use Rattle.history.specs.declared.sent.Sent.{Sent}
use Rattle.hop_rule.specs.Moments.{nth_step}
use Rattle.hop_rule.specs.declared.sizes.BoardSizes.{BoardSizes}
use Rattle.hop_rule.specs.declared.step.BoardStep.{BoardStep}
use Rattle.board_api.specs.declared.lists.BoardLists.{BoardLists}
use Rattle.hop_delivery.specs.Closings.FlowLaw.{accepted_left}
use Rattle.hop_delivery.specs.Orders.Runs.{IsByRule, Execution, settings_of_visit, turns_of}
use Rattle.hop_delivery.specs.Orders.Runs.{word_of}
use Rattle.hop_delivery.specs.Orders.TransmitSettings.{pick_by, transmit_steering}
use Rattle.hop_delivery.specs.Orders.Turns.{Explained, Turn}
use Rattle.steer_model.specs.Good.Inputs.{Input, Prefixes, settings_at, setup_in}
use Rattle.steer_model.specs.Good.Replies.{IsReplyByRule}
use Rattle.steer_model.specs.State.Setup.{flow_number_of, packet_hash}
use Rattle.run_coupling.specs.Coupling.Boards.{IsTransmitBoard}
use Rattle.run_coupling.specs.Coupling.Inputs.{NamesTransmitQueues}
use Rattle.run_coupling.specs.Coupling.Tries.{KeepsTransmitTries, Try, at_transmit, tries_up_to}

module _ (i : Input) (h : History) (about : BoardSizes) (own : ℕ → List BoardStep)
    (lists : BoardLists) where
  -- Each choice for a reply has its turn, in order, wants the queue that the maps of the turn's
  -- visit pick for the reply, and is by the rule.
  pub record RepliesHaveTurns (t : Execution) : Type 0 where
    pub explained : (a : ℕ) → Explained (own (t.seat a)) (t.turns (t.seat a))
    pub journals : (a : ℕ) → list_at h.tx_choices a ≡ t.choices a
    pub counted : (a : ℕ) → length (turns_of t a) ≡ length (t.choices a)
    pub chosen : (a k : ℕ) (u : Turn) → nth_step (turns_of t a) k ≡ Some u
        → slice_get (t.choices a) k ≡ Some u.chosen
    pub few : (a : ℕ) → All (λ c. c.choice.lane < 32) (t.choices a)
    pub by_rule : (a k : ℕ) (u : Turn) → nth_step (turns_of t a) k ≡ Some u
        → IsByRule about own (accepted_left lists) t
        (transmit_steering (flow_number_of (setup_in i))) a k u
    pub replies : (a k : ℕ) (u : Turn) → nth_step (turns_of t a) k ≡ Some u
        → (r : Sent) × (slice_get (list_at h.sent a) k ≡ Some r) × (u.chosen.id ≡ r.id)
        × (u.chosen.choice.want
        ≡ Some (pick_by (length i.plan.tx) (settings_of_visit about own u.word) r.rxq r.cpu
        (packet_hash (setup_in i) r.id)))

-- How many commands a choice for a reply was made after.
abbrev pub commands_before_reply : List Try → Execution → ℕ → ℕ → ℕ
commands_before_reply tries t a k =
    length (tries_up_to at_transmit (word_of (nth_step (turns_of t a) k) / 2 ^ 32) tries)

-- Each choice for a reply is by the rule with the maps after so many commands, whose number never
-- falls along the replies of an application.
pub record RepliesAreBy (i : Input) (h : History) (at : ℕ → ℕ → ℕ) : Type 0 where
  pub prefixes : (a : ℕ) → Prefixes (length (list_at h.tx_choices a)) (length h.commands) (at a)
  pub each : (a k : ℕ) → k < length (list_at h.tx_choices a)
      → IsReplyByRule i h a k (settings_at i h (at a k))

-- The choices for replies are as `RepliesAreBy` says, with the commands up to the opening of the
-- transmit gate that a choice's visit counts.
abbrev pub RepliesFollow : BoardSizes → (ℕ → List BoardStep) → BoardLists → Type 0
RepliesFollow about own lists =
    (i : Input) (h : History) (tries : List Try) (t : Execution)
    → IsTransmitBoard i h about lists
    → KeepsTransmitTries i h about own tries (length i.plan.tx)
    → All (λ (t : Try). NamesTransmitQueues (length i.plan.tx) t.given.command) tries
    → RepliesHaveTurns i h about own lists t → RepliesAreBy i h (commands_before_reply tries t)
