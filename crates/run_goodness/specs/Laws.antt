-- The laws of a good history, from what the threads keep.
use Rattle.std.specs.Prelude.{◌≡◌, ℕ, List, length, slice_get, Some, ◌≢◌, ◌<◌, ◌≤◌, ◌⊎◌, true, map}
use Rattle.history.specs.Lists.{arrivals_at, lane_at}
use Rattle.history.specs.declared.history.History.{History}
use Rattle.hop_rule.specs.declared.sizes.BoardSizes.{BoardSizes}
use Rattle.hop_rule.specs.declared.step.BoardStep.{BoardStep}
use Rattle.board_api.specs.declared.lists.BoardLists.{BoardLists}
use Rattle.hop_delivery.specs.Closings.FlowLaw.{accepted_left}
use Rattle.hop_delivery.specs.Orders.Premises.{MeetsPremises}
use Rattle.hop_delivery.specs.Orders.ReceiveSettings.{receive_steering}
use Rattle.hop_delivery.specs.Orders.Runs.{Execution, IsByRule, Steering, turns_of}
use Rattle.steer_model.specs.Good.Deliveries.{IsDeliveredInOrder}
use Rattle.steer_model.specs.Good.Inputs.{Input, setup_in}
use Rattle.run_coupling.specs.Coupling.Boards.{IsReceiveBoard}
use Rattle.run_coupling.specs.Coupling.Inputs.{FlowsHaveOneHash, receive_queues}
use Rattle.hop_rule.specs.Moments.{nth_step, IsStep, past}
use Rattle.hop_delivery.specs.Orders.Turns.{Explained, Turn}
use Rattle.steer_model.specs.Good.Choices.{HeadsRise}
use Rattle.steer_base.specs.Counters.{distance}
use Rattle.hop_rule.specs.declared.step.BoardStep.TheVariants.{Counted, Weighed, Gate}
use Rattle.board_api.specs.OwnSteps.{Has}
use Rattle.board_api.specs.StepWords.{low_half, tail_in}
use Rattle.linearization.specs.Orders.{StepBy}
use Rattle.steer_base.specs.declared.command.Answer.TheVariants as says
use Rattle.steer_base.specs.declared.command.Busy.{Busy}
use Rattle.steer_base.specs.declared.command.Busy.TheVariants as busy
use Rattle.steer_base.specs.declared.command.Command.{Command}
use Rattle.history.specs.declared.commanded.Commanded.{Commanded}
use Rattle.hop_rule.specs.Boards.{accepted, retired}
use Rattle.hop_rule.specs.SettingLaws.{open_visits}
use Rattle.hop_rule.specs.Sizes.{closer}
use Rattle.hop_rule.specs.declared.step.GateStep.TheVariants.{NotShut, Shut}
use Rattle.steer_model.specs.Good.Commands.{gate_lanes, AreGiven, CommandsAreGiven}
use Rattle.steer_model.specs.Steps.Commands.{affects}
use Rattle.run_coupling.specs.Coupling.Runs.{IsRun}
use Rattle.history.specs.declared.lane_list.LaneList.{LaneList}
use Rattle.plan_reader.specs.Ranges.{commands_of}
use Rattle.run_coupling.specs.Coupling.Answers.{AllAnswered}
use Rattle.run_coupling.specs.Coupling.Tries.{Try, at_receive, at_transmit, steps_of_tries}
use Rattle.run_words.specs.Lists.{oldest_first}
use Rattle.steer_model.specs.Good.GoodHistory.{Good}

-- If the six premises hold at the receive board, each flow of each receive queue is in its inbox in
-- the order of its arrivals, without the dropped packets.
abbrev pub InboxesFollow : BoardSizes → (ℕ → List BoardStep) → BoardLists → Type 0
InboxesFollow about own lists =
    (i : Input) (h : History) (t : Execution) → FlowsHaveOneHash i → IsReceiveBoard i h about lists
    → ((p : ℕ) → t.arrivals p ≡ arrivals_at h.arrivals p)
    → MeetsPremises about own (accepted_left lists) t (receive_steering (receive_queues i))
    → IsDeliveredInOrder i h

-- Along the choices of a producer, which have their turns and are by the rule, the heads seen at
-- one lane never fall, and none is over what the lane retired in the end.
abbrev pub HeadsFollow : BoardSizes → (ℕ → List BoardStep) → BoardLists → Type 0
HeadsFollow about own lists =
    (t : Execution) (r : Steering) (p : ℕ) → Explained (own (t.seat p)) (t.turns (t.seat p))
    → length (turns_of t p) ≡ length (t.choices p)
    → ((k : ℕ) (u : Turn) → nth_step (turns_of t p) k ≡ Some u
    → slice_get (t.choices p) k ≡ Some u.chosen)
    → ((k : ℕ) (u : Turn) → nth_step (turns_of t p) k ≡ Some u
    → IsByRule about own (accepted_left lists) t r p k u)
    → HeadsRise about.start lists.lanes (t.choices p)

-- If a seat loaded the head of a lane and then its tail, and they differ, the head is below the
-- tail
-- as counts, and neither is beyond what the lane has in the end.
abbrev pub BusyLanesAreBusy : BoardSizes → (ℕ → List BoardStep) → BoardLists → Type 0
BusyLanesAreBusy about own lists =
    (q j k l head tail : ℕ) → j < k → Has (own q) j (Weighed l head)
    → Has (own q) k (Counted l tail) → low_half head ≢ tail_in tail
    → (distance (low_half head) about.start < distance (tail_in tail) about.start)
    × (distance (low_half head) about.start ≤ (lane_at lists.lanes l).retired)
    × (distance (tail_in tail) about.start ≤ length (lane_at lists.lanes l).accepted)

-- The controller tried to close the gate at a moment at which so many visits were open, and at
-- least one. Or it closed the gate at a moment at which the lane, which the command affects, had a
-- packet that it had accepted and not retired.
abbrev pub WasBusy : Input → BoardSizes → List (StepBy BoardStep) → Command → Busy → Type 0
WasBusy i about order c (busy.Inside n) =
    (m : ℕ) × (word : ℕ) × IsStep order m (closer about) (Gate (NotShut word))
    × (n ≡ open_visits about (past m order)) × (0 < n)
WasBusy i about order c (busy.NotEmpty lane head tail) =
    (m : ℕ) × (word : ℕ) × IsStep order m (closer about) (Gate (Shut word))
    × (affects (setup_in i) c lane ≡ true)
    × (retired about (past m order) lane < length (accepted about (past m order) lane))

-- In a run each busy answer was true at the board of its command. So a command that was not refused
-- and that found the gate free and the lanes empty which it affects is not answered busy.
abbrev pub BusyAnswersAreTrue : Type 0
BusyAnswersAreTrue =
    (i : Input) (h : History) (r : IsRun i h) (k : ℕ) (c : Commanded) (why : Busy)
    → slice_get h.commands k ≡ Some c → c.answer ≡ says.Busy why
    → ((gate_lanes h c.command ≡ Some h.lanes) × WasBusy i r.rx r.rx_ended.order c.command why)
    ⊎ ((gate_lanes h c.command ≡ Some h.tx_lanes) × WasBusy i r.tx r.tx_ended.order c.command why)

-- A board of a run leaves these lanes of the history, and the controller's own list there is that
-- of
-- its tries.
pub record IsBoardOf (h : History) (lanes : List LaneList) (at : Try → List BoardStep)
    (tries : List Try) (about : BoardSizes) (own : ℕ → List BoardStep) (lists : BoardLists)
    : Type 0 where
  pub start : about.start ≡ h.start
  pub lanes_are : lanes ≡ lists.lanes
  pub own_list : own (closer about) ≡ steps_of_tries at tries
  pub busy : BusyLanesAreBusy about own lists

-- If the commands of the plan are given in order, each with its tries, and each try is answered
-- with
-- its cause, the commands and answers are those of a good history.
abbrev pub CommandsFollow : Type 0
CommandsFollow =
    (i : Input) (h : History) (tries : List Try) (rx tx : BoardSizes)
    (rx_own tx_own : ℕ → List BoardStep) (rx_lists tx_lists : BoardLists)
    → IsBoardOf h h.lanes at_receive tries rx rx_own rx_lists
    → IsBoardOf h h.tx_lanes at_transmit tries tx tx_own tx_lists
    → h.commands ≡ oldest_first (map (λ t. t.given) tries)
    → AreGiven i.plan.tries (commands_of i.plan.steps) h.commands
    → AllAnswered i h tries → CommandsAreGiven i h

-- A history of a run is good: if the threads keep their coupling invariants with it and the sweep
-- has ended, all eleven clauses hold of it.
abbrev pub RunsAreGood : Type 0
RunsAreGood = (i : Input) (h : History) → IsRun i h → Good i h
