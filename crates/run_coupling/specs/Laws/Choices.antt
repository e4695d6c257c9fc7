-- The choices of the receive queues, for the third clause of a good history.
use Rattle.std.specs.Prelude.{◌≡◌, ℕ, ◌/◌, ◌^◌, ◌<◌, ◌≤◌, List, [], Some, length, slice_get, All}
use Rattle.history.specs.Lists.{list_at}
use Rattle.history.specs.declared.history.History.{History}
use Rattle.hop_rule.specs.Moments.{nth_step}
use Rattle.hop_rule.specs.declared.sizes.BoardSizes.{BoardSizes}
use Rattle.hop_rule.specs.declared.step.BoardStep.{BoardStep}
use Rattle.board_api.specs.declared.lists.BoardLists.{BoardLists}
use Rattle.hop_delivery.specs.Closings.FlowLaw.{accepted_left}
use Rattle.hop_delivery.specs.Orders.ReceiveSettings.{queues, receive_steering}
use Rattle.hop_delivery.specs.Orders.Runs.{IsByRule, Execution, turns_of, word_of}
use Rattle.hop_delivery.specs.Orders.Turns.{Explained, Turn}
use Rattle.steer_model.specs.Good.Choices.{AreByRule}
use Rattle.steer_model.specs.Good.Inputs.{Input}
use Rattle.run_coupling.specs.Coupling.Boards.{IsReceiveBoard}
use Rattle.run_coupling.specs.Coupling.Inputs.{FlowsHaveOneHash, NamesReceiveQueues, receive_queues}
use Rattle.run_coupling.specs.Coupling.Tries.{KeepsReceiveTries, Try, at_receive, tries_up_to}

module _ (i : Input) (h : History) (about : BoardSizes) (own : ℕ → List BoardStep)
    (lists : BoardLists) where
  -- Each choice of the receive queues has its turn, in order, and is by the rule over the settings
  -- of the turn's visit.
  pub record ChoicesHaveTurns (t : Execution) : Type 0 where
    pub explained : (p : ℕ) → Explained (own (t.seat p)) (t.turns (t.seat p))
    pub journals : (p : ℕ) → list_at h.choices p ≡ t.choices p
    pub none : (p : ℕ) → queues (receive_queues i) ≤ p → t.choices p ≡ []
    pub counted : (p : ℕ) → length (turns_of t p) ≡ length (t.choices p)
    pub chosen : (p k : ℕ) (u : Turn) → nth_step (turns_of t p) k ≡ Some u
        → slice_get (t.choices p) k ≡ Some u.chosen
    pub known : (p k : ℕ) (u : Turn) → nth_step (turns_of t p) k ≡ Some u
        → u.chosen.id < length i.packets
    pub by_rule : (p k : ℕ) (u : Turn) → nth_step (turns_of t p) k ≡ Some u
        → IsByRule about own (accepted_left lists) t (receive_steering (receive_queues i)) p k u

-- How many commands a choice was made after: those up to the opening that its visit's entry counts.
abbrev pub commands_before : List Try → Execution → ℕ → ℕ → ℕ
commands_before tries t p k =
    length (tries_up_to at_receive (word_of (nth_step (turns_of t p) k) / 2 ^ 32) tries)

-- Each choice is by the rule with the settings after these commands, and their number never falls
-- along the choices of a queue.
abbrev pub ChoicesFollow : BoardSizes → (ℕ → List BoardStep) → BoardLists → Type 0
ChoicesFollow about own lists =
    (i : Input) (h : History) (tries : List Try) (t : Execution) → FlowsHaveOneHash i
    → IsReceiveBoard i h about lists → KeepsReceiveTries i h about own tries
    → All (λ (t : Try). NamesReceiveQueues (queues (receive_queues i)) t.given.command) tries
    → ChoicesHaveTurns i h about own lists t → AreByRule i h (commands_before tries t)
