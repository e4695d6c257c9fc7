-- What the steps of a seat at the hint words tell at the closing.
use Rattle.std.specs.Prelude.{◌≡◌, ◌⊎◌, ℕ, ◌<◌, List, [], ◌∷◌, Some, All, length, slice_get}
use Rattle.std.specs.List.{Contains}
use Rattle.linearization.specs.Orders.{StepBy}
use Rattle.linearization.specs.Seats.{SeatView}
use Rattle.steer_base.specs.declared.command.Command.TheVariants as give
use Rattle.steer_base.specs.declared.filter.Filter.{Filter}
use Rattle.steer_base.specs.declared.limits.TheConstants.{MAX_SOCKET_SIZE}
use Rattle.hint_words.specs.Steps.{value_written}
use Rattle.hint_words.specs.declared.step.HintStep.{HintStep}
use Rattle.hint_words.specs.declared.step.HintStep.TheVariants.{Store}
use Rattle.history.specs.Lists.{list_at}
use Rattle.history.specs.declared.history.History.{History}
use Rattle.hop_rule.specs.Moments.{nth_step}
use Rattle.hop_delivery.specs.Orders.Runs.{Execution}
use Rattle.hop_delivery.specs.Orders.Turns.{Turn}
use Rattle.steer_model.specs.Good.Inputs.{Input, WasDone, setup_in}
use Rattle.run_coupling.specs.Laws.SharedCodes.{AreShared}
use Rattle.run_coupling.specs.Coupling.Hints.{HintCodes, StoresAreMeant, WasFiltered}
use Rattle.run_coupling.specs.Coupling.Marks.{FoundSet, IsMarkedWrite}
use Rattle.run_workers.specs.Records.Storing.{StoresAreFor}
use Rattle.run_workers.specs.Records.Words.{Mark, Note}
use Rattle.run_crew.specs.ApplicationCoupling.{IsNoteFor}

-- The write is one that the history has of its application, made for the packet of the reply that
-- `reply` tells.
pub record IsNoted (i : Input) (h : History) (reply : (app write : ℕ) → ℕ) (e : StepBy Note)
    : Type 0 where
  pub index : ℕ
  pub is : slice_get (list_at h.writes e.by) index ≡ Some e.step.write
  pub made : IsNoteFor i (list_at h.sent e.by) (reply e.by index) e.step

-- The value is that of a processor that there is, or 0 by a done command that sets the size of the
-- socket flow table.
abbrev pub IsEntryValue : Input → History → HintCodes → ℕ → Type 0
IsEntryValue i h c value =
    ((cpu : ℕ) × (value ≡ c.place cpu) × (cpu < i.plan.cpus))
    ⊎ ((size : ℕ) × (value ≡ 0) × WasDone h (give.Sock size))

-- Before which steps a seat made its stores: it had found the packet announced whose move set a
-- filter, and the packet marked for which it made a write. Its marks are these, and at entries it
-- wrote processors, or 0 for a done command.
pub record StoresInTurn (i : Input) (h : History) (c : HintCodes)
    (seats : List (SeatView HintStep)) (t : Execution) (reply : (app write : ℕ) → ℕ)
    (marks : List (StepBy Mark)) (seat : SeatView HintStep) : Type 0 where
  pub filters : (n place : ℕ) (f : Filter) → place < i.plan.filters
      → f.queue < length i.plan.queues → f.cpu < i.plan.cpus
      → nth_step seat.steps n ≡ Some (Store (c.filter place) (c.filter_value f))
      → (w : WasFiltered i t place f.queue) × FoundSet seat (c.packet w.turn.chosen.id) n
  pub marks_are : (x n value : ℕ) → nth_step seat.steps n ≡ Some (Store (c.steered x) value)
      → (e : StepBy Mark) × Contains marks e × (e.step.packet ≡ x) × (e.step.number ≡ n)
  pub writes : (n place cpu : ℕ) → place < MAX_SOCKET_SIZE
      → nth_step seat.steps n ≡ Some (Store (c.socket place) (c.place cpu))
      → IsMarkedWrite i h c seats reply seat n (record { entry = place; cpu = cpu })
  pub entries : (place value : ℕ) (d : HintStep) → place < MAX_SOCKET_SIZE
      → Contains seat.steps d → value_written (c.socket place) d ≡ Some value
      → IsEntryValue i h c value

-- The seat announced no packet.
abbrev pub TellsNothing : HintCodes → SeatView HintStep → Type 0
TellsNothing c seat =
    (y n value : ℕ) → nth_step seat.steps n ≡ Some (Store (c.packet y) value) → ⊥

-- What the stores of a worker's seat were for, in their turn. It announced nothing.
pub record StoresAreCoupled (i : Input) (h : History) (c : HintCodes)
    (seats : List (SeatView HintStep)) (t : Execution) (reply : (app write : ℕ) → ℕ)
    (marks : List (StepBy Mark)) (seat : SeatView HintStep) : Type 0 where
  pub meant : StoresAreMeant i h c (seat ∷ []) t
  pub in_turn : StoresInTurn i h c seats t reply marks seat
  pub quiet : TellsNothing c seat

-- What the stores of a seat at the hint words were for, where each was for a turn of the seat q,
-- for one of these marks, or for a write that the history has.
abbrev pub WorkersStoresAreMeant : Type 0
WorkersStoresAreMeant =
    (i : Input) (h : History) (c : HintCodes) (seats : List (SeatView HintStep)) (t : Execution)
    (q : ℕ) (reply : (app write : ℕ) → ℕ) (marks : List (StepBy Mark))
    (noted : List (StepBy Note)) (seat : SeatView HintStep)
    → AreShared c → All (λ (e : StepBy Turn). t.seat e.by ≡ q) (t.turns q)
    → ((e : StepBy Note) → Contains noted e → IsNoted i h reply e)
    → StoresAreFor (setup_in i) i.plan.filters (t.turns q) marks noted seat.steps
    → StoresAreCoupled i h c seats t reply marks seat

-- What holds of the stores of each seat holds of those of all.
abbrev pub StoresAreMeantByEach : Type 0
StoresAreMeantByEach =
    (i : Input) (h : History) (c : HintCodes) (t : Execution) (seats : List (SeatView HintStep))
    → ((seat : SeatView HintStep) → Contains seats seat → StoresAreMeant i h c (seat ∷ []) t)
    → StoresAreMeant i h c seats t
