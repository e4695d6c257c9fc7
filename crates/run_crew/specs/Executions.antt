-- The turns of all workers as one execution of a board.
use Rattle.std.specs.Prelude.{◌≡◌, ℕ, ◌%◌, ◌≤◌, List, [], Some, length, slice_get}
use Rattle.linearization.specs.Orders.{StepBy}
use Rattle.steer_base.specs.declared.choice.Chosen.{Chosen}
use Rattle.history.specs.Lists.{list_at}
use Rattle.hop_delivery.specs.Orders.Runs.{Execution}
use Rattle.hop_delivery.specs.Orders.Turns.{Turn}
use Rattle.run_workers.specs.Records.Words.{Mark, Note}
use Rattle.run_workers.specs.Stages.{StageView}
use Rattle.run_workers.specs.Workers.{IsWorking}
use Rattle.run_crew.specs.declared.seated.Seated.{Seated}

-- What a worker's record says of its seats: the turns at each board, the marks of packets, and the
-- writes that were noted.
pub record SeatTurns : Type 0 where
  pub steered : List (StepBy Turn)
  pub replied : List (StepBy Turn)
  pub marks : List (StepBy Mark)
  pub noted : List (StepBy Note)

-- A worker keeps its record with these turns, marks and writes.
pub record HasTurns (t : StageView) (x : Seated) (s : SeatTurns) : Type 0 where
  pub is : IsWorking t x.worker x.seats
  pub steered : is.turns ≡ s.steered
  pub replied : is.replies ≡ s.replied
  pub marks : is.marks ≡ s.marks
  pub noted : is.noted ≡ s.noted

-- These are the turns of each seat: a worker's own, and none of any other.
pub record AreTurnsOf (t : StageView) (crew : List Seated) (turns : ℕ → SeatTurns) : Type 0 where
  pub workers : (w : ℕ) (x : Seated) → slice_get crew w ≡ Some x → HasTurns t x (turns w)
  pub others : (w : ℕ) → length crew ≤ w
      → turns w ≡ record { steered = []; replied = []; marks = []; noted = [] }

-- The execution of the receive board, with these arrivals: each queue is steered by the seat of its
-- worker.
abbrev pub queue_execution : List Seated → (ℕ → SeatTurns) → List (List Chosen) → (ℕ → List ℕ) →
    Execution
queue_execution crew turns choices arrivals = record {
  arrivals = arrivals;
  choices = λ q. list_at choices q;
  seat = λ q. q % length crew;
  turns = λ w. (turns w).steered;
}

-- The execution of the transmit board, of the applications.
abbrev pub reply_execution : List Seated → (ℕ → SeatTurns) → List (List Chosen) → (ℕ → List ℕ) →
    Execution
reply_execution crew turns choices arrivals = record {
  arrivals = arrivals;
  choices = λ a. list_at choices a;
  seat = λ a. a % length crew;
  turns = λ w. (turns w).replied;
}
