-- What the controller's journal and its seats say at the closing of a run.
use Rattle.std.specs.Prelude.{◌≡◌, ◌⊎◌, ℕ, ◌+◌, ◌<◌, Bool, List, [], length}
use Rattle.std.specs.List.{Contains}
use Rattle.steer_base.specs.declared.command.Command.TheVariants as give
use Rattle.steer_base.specs.declared.limits.TheConstants.{MAX_SOCKET_SIZE}
use Rattle.hint_words.specs.declared.step.HintStep.TheVariants.{ClearIf, Store}
use Rattle.history.specs.declared.history.History.{History}
use Rattle.plan_reader.specs.Ranges.{commands_of}
use Rattle.hop_rule.specs.Gates.{own_settings}
use Rattle.hop_rule.specs.Sizes.{closer}
use Rattle.hop_rule.specs.declared.sizes.BoardSizes.{BoardSizes}
use Rattle.hop_rule.specs.declared.step.BoardStep.{BoardStep}
use Rattle.steer_model.specs.Good.Commands.{AreGiven}
use Rattle.steer_model.specs.Good.Inputs.{Input, WasDone, setup_in}
use Rattle.steer_model.specs.State.Start.{initial_settings}
use Rattle.run_coupling.specs.Laws.SharedCodes.{AreShared}
use Rattle.run_coupling.specs.Coupling.EmptiedLanes.{AllFindLanes}
use Rattle.run_coupling.specs.Coupling.Hints.{HintCodes}
use Rattle.run_coupling.specs.Coupling.Inputs.{AreReceiveWords, receive_queues}
use Rattle.run_coupling.specs.Coupling.Runs.{KeepsCommands}
use Rattle.run_coupling.specs.Coupling.Tries.{KeepsReceiveTries, KeepsTransmitTries, Try}
use Rattle.run_coupling.specs.Coupling.Tries.{at_receive}
use Rattle.run_words.specs.HintViews.{HintView}
use Rattle.run_controller.specs.Journals.{Attempted}
use Rattle.run_controller.specs.Settings.{KnownSettings, first_known}
use Rattle.run_controller.specs.Stages.{Stage}
use Rattle.run_words.specs.declared.seats.Seats.{Seats}

-- What a store of the controller is: the queue that a done command gave an entry of the redirection
-- table, the processor to which a done command moved an application, or the clear of an entry of
-- the socket flow table, whose size a done command set.
abbrev pub IsStoredFor : History → HintCodes → ℕ → ℕ → Type 0
IsStoredFor h c number value =
    ((entry : ℕ) × (q : ℕ) × (number ≡ c.entry entry) × (value ≡ c.place q)
    × WasDone h (give.Reta entry q))
    ⊎ ((app : ℕ) × (cpu : ℕ) × (number ≡ c.stand app) × (value ≡ c.place cpu)
    × WasDone h (give.Stand app cpu))
    ⊎ ((place : ℕ) × (size : ℕ) × (place < MAX_SOCKET_SIZE) × (number ≡ c.socket place)
    × (value ≡ 0) × WasDone h (give.Sock size))

-- The coupling invariants of the controller: all steps of its seats at the boards are those of its
-- tries, each try set and opened as its answer says, the lanes were found empty before a setting
-- was made, the commands are those of the plan and each answer has its cause, each store has its
-- command, and no other word than that of a filter was cleared by a step that compares.
pub record CommandsAreCoupled (i : Input) (h : History) (rx tx : BoardSizes)
    (rx_own tx_own : ℕ → List BoardStep) (c : HintCodes) (hint : HintView) (tries : List Try)
    : Type 0 where
  pub received : KeepsReceiveTries i h rx rx_own tries
  pub sent : KeepsTransmitTries i h tx tx_own tries (length i.plan.tx)
  pub finds : AllFindLanes rx (receive_queues i) i.plan.cpus (length i.plan.tx) at_receive tries
  pub commands : KeepsCommands i h tries
  pub stored : (number value : ℕ) → Contains hint.steps (Store number value)
      → IsStoredFor h c number value
  pub cleared : (word value : ℕ) (done : Bool) → Contains hint.steps (ClearIf word value done)
      → (place : ℕ) × (place < i.plan.filters) × (word ≡ c.filter place)

-- The two boards of a run: a lane of the receive board for each processor and of the transmit board
-- for each transmit queue, as many as the history has; a seat for each worker and one for the
-- controller; and the first settings of the receive board are the plan's.
pub record AreBoards (i : Input) (h : History) (rx tx : BoardSizes) : Type 0 where
  pub rx_lanes : rx.lanes ≡ i.plan.cpus
  pub tx_lanes : tx.lanes ≡ length i.plan.tx
  pub rx_left : length h.lanes ≡ rx.lanes
  pub tx_left : length h.tx_lanes ≡ tx.lanes
  pub rx_seats : rx.seats ≡ i.plan.workers + 1
  pub tx_seats : tx.seats ≡ i.plan.workers + 1
  pub settings : AreReceiveWords (receive_queues i) (initial_settings i.plan) (λ p. 0)
      (own_settings rx [])

-- If seats without steps gave the commands of the plan, and the journal is that of the history, the
-- coupling invariants of the controller hold.
abbrev pub ControllerKeepsCoupling : Type 0
ControllerKeepsCoupling =
    (i : Input) (h : History) (s : Stage) (rx_own tx_own : ℕ → List BoardStep) (c : HintCodes)
    (last : KnownSettings) (old new : Seats)
    → AreShared c → AreBoards i h s.rx.sizes s.tx.sizes
    → s.shared.given ≡ setup_in i → s.shared.filters ≡ i.plan.filters
    → old.rx.steps ≡ [] → old.tx.steps ≡ [] → old.hint.steps ≡ []
    → rx_own (closer s.rx.sizes) ≡ new.rx.steps → tx_own (closer s.tx.sizes) ≡ new.tx.steps
    → AreGiven i.plan.tries (commands_of i.plan.steps) h.commands
    → Attempted s [] h.commands (first_known i.plan) last old new
    → (tries : List Try) × CommandsAreCoupled i h s.rx.sizes s.tx.sizes rx_own tx_own c new.hint
    tries
