-- All that the threads of a run keep, and what the closings of its boards and hint words tell.
use Rattle.std.specs.Prelude.{◌≡◌, ℕ, List, length}
use Rattle.linearization.specs.Seats.{SeatView}
use Rattle.hint_words.specs.Closings.{HaveEnded}
use Rattle.hint_words.specs.declared.step.HintStep.{HintStep}
use Rattle.history.specs.declared.history.History.{History}
use Rattle.plan_reader.specs.Ranges.{commands_of}
use Rattle.hop_rule.specs.declared.sizes.BoardSizes.{BoardSizes}
use Rattle.hop_rule.specs.declared.step.BoardStep.{BoardStep}
use Rattle.board_api.specs.Closings.Closings.{HasEnded, own_in}
use Rattle.board_api.specs.Seats.{BoardSeatView}
use Rattle.board_api.specs.declared.lists.BoardLists.{BoardLists}
use Rattle.hop_delivery.specs.Orders.Runs.{Execution}
use Rattle.steer_model.specs.Good.Commands.{AreGiven}
use Rattle.steer_model.specs.Good.Inputs.{Input, setup_in}
use Rattle.steer_model.specs.State.Setup.{app_for}
use Rattle.run_coupling.specs.Coupling.Answers.{AllAnswered}
use Rattle.run_coupling.specs.Coupling.Applications.{KeepsApplications}
use Rattle.run_coupling.specs.Coupling.Boards.{IsReceiveBoard, IsTransmitBoard}
use Rattle.run_coupling.specs.Coupling.Deliveries.{AllDeliverTo}
use Rattle.run_coupling.specs.Coupling.EmptiedLanes.{AllFindLanes}
use Rattle.run_coupling.specs.Coupling.Ends.{AllArrived, TotalsReplied, TotalsRetired}
use Rattle.run_coupling.specs.Coupling.Hints.{HintCodes, LoadsAreUsed, StoresAreMeant}
use Rattle.run_coupling.specs.Coupling.Marks.{KeepsMarks}
use Rattle.run_coupling.specs.Coupling.Inputs.{FlowsHaveOneHash, receive_queues}
use Rattle.run_coupling.specs.Coupling.Queues.{KeepsQueues}
use Rattle.run_coupling.specs.Coupling.Tries.{KeepsReceiveTries, KeepsTransmitTries, Try}
use Rattle.run_coupling.specs.Coupling.Tries.{at_receive}
use Rattle.run_coupling.specs.Laws.SharedCodes.{AreShared}

-- The history is of this input: all packets arrived, and what it copies of the input.
pub record IsOfInput (i : Input) (h : History) : Type 0 where
  pub hashes : FlowsHaveOneHash i
  pub arrived : AllArrived i h
  pub total : h.total ≡ length i.packets
  pub cut : h.cut ≡ i.cut
  pub start : h.start ≡ i.plan.start

-- The controller gave the commands of the plan, and answered each try by its cause.
pub record KeepsCommands (i : Input) (h : History) (tries : List Try) : Type 0 where
  pub given : AreGiven i.plan.tries (commands_of i.plan.steps) h.commands
  pub answered : AllAnswered i h tries

-- What the controller, the queues and the processors keep at the receive board.
pub record ReceiveCoupling (i : Input) (h : History) (about : BoardSizes)
    (own : ℕ → List BoardStep) (lists : BoardLists) (tries : List Try) (t : Execution)
    (seen : ℕ → ℕ → ℕ → ℕ) : Type 0 where
  pub board : IsReceiveBoard i h about lists
  pub tries_are : KeepsReceiveTries i h about own tries
  pub finds : AllFindLanes about (receive_queues i) i.plan.cpus (length i.plan.tx) at_receive tries
  pub queues : KeepsQueues i h about own t seen
  pub right : AllDeliverTo about (app_for (setup_in i)) own
  pub retired : TotalsRetired about own

-- What the controller, the applications and the transmit queues keep at the transmit board.
pub record TransmitCoupling (i : Input) (h : History) (rx_own : ℕ → List BoardStep)
    (about : BoardSizes) (own : ℕ → List BoardStep) (lists : BoardLists) (tries : List Try)
    (t : Execution) (seen : ℕ → ℕ → ℕ → ℕ) : Type 0 where
  pub board : IsTransmitBoard i h about lists
  pub tries_are : KeepsTransmitTries i h about own tries (length i.plan.tx)
  pub applications : KeepsApplications i h rx_own about own t seen
  pub right : AllDeliverTo about (λ id. 0) own
  pub retired : TotalsRetired about own

-- A history of a run: its two boards and its hint words have ended, the threads keep their coupling
-- invariants with it, and its sweep ended.
pub record IsRun (i : Input) (h : History) : Type 0 where
  pub input : IsOfInput i h
  pub tries : List Try
  pub commands : KeepsCommands i h tries
  pub rx : BoardSizes
  pub rx_seats : List BoardSeatView
  pub rx_lists : BoardLists
  pub rx_ended : HasEnded rx rx_seats rx_lists
  pub queues : Execution
  pub queues_seen : ℕ → ℕ → ℕ → ℕ
  pub received : ReceiveCoupling i h rx (own_in rx_seats) rx_lists tries queues queues_seen
  pub tx : BoardSizes
  pub tx_seats : List BoardSeatView
  pub tx_lists : BoardLists
  pub tx_ended : HasEnded tx tx_seats tx_lists
  pub applications : Execution
  pub maps_seen : ℕ → ℕ → ℕ → ℕ
  pub sent : TransmitCoupling i h (own_in rx_seats) tx (own_in tx_seats) tx_lists tries applications
      maps_seen
  pub replied : TotalsReplied rx (own_in rx_seats) h
  pub codes : HintCodes
  pub shared : AreShared codes
  pub hint_seats : List (SeatView HintStep)
  pub hints_ended : HaveEnded hint_seats
  pub meant : StoresAreMeant i h codes hint_seats queues
  pub used : LoadsAreUsed i h codes hint_seats (own_in rx_seats) queues queues_seen
  pub marks : KeepsMarks i h codes hint_seats (own_in rx_seats) queues queues_seen used.wants
