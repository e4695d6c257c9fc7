-- The counts by which the workers of a run see that all packets are finished: each packet is
-- dropped, or in its inbox with its reply retired.
use Rattle.std.specs.Prelude.{◌≡◌, ℕ, zero, suc, ◌+◌, ◌-◌, ◌<◌, ◌≤◌, List, Some, All, length}
use Rattle.std.specs.Prelude.{slice_get}
use Rattle.std.specs.List.{Contains, sum, sum_by}
use Rattle.linearization.specs.Seats.{SeatView}
use Rattle.hint_words.specs.Loads.{LoadsAreStored}
use Rattle.hint_words.specs.declared.step.HintStep.{HintStep}
use Rattle.hint_words.specs.declared.step.HintStep.TheVariants.{Load, Store}
use Rattle.run_words.specs.declared.hint_word.TheConstants.{DONE_WORD}
use Rattle.run_words.specs.declared.values.TheConstants.{DONE as DONE_VALUE}
use Rattle.run_words.specs.declared.seats.Seats.{Seats}
use Rattle.run_workers.specs.Actors.{Each}
use Rattle.run_workers.specs.declared.drain.Drain.{Drain}
use Rattle.run_workers.specs.declared.poller.Poller.{Poller}
use Rattle.run_workers.specs.declared.tally.Counter.{Counter}
use Rattle.run_workers.specs.declared.tally.Tally.{Tally}
use Rattle.run_workers.specs.declared.worker.Worker.{Worker}

-- ---- what is counted

-- how many packets of a queue were dropped
abbrev pub dropped_by : Poller → ℕ
dropped_by p = length p.choices.items - p.accepted

-- how many packets of these queues were
abbrev pub dropped_in : List Poller → ℕ
dropped_in pollers = sum_by dropped_by pollers

-- how many packets these lanes have retired
abbrev pub retired_in : List Drain → ℕ
retired_in drains = sum_by (λ (d : Drain). d.retired) drains

-- How many packets a worker has finished: its queues dropped them, or its transmit queues have
-- retired their replies.
abbrev pub finished_by : Worker → ℕ
finished_by w = dropped_in w.pollers.items + retired_in w.ships.items

-- ---- the words

-- The tally has a word and a seat for each worker.
pub record IsTally (t : Tally) : Type 0 where
  pub words : t.words.words ≡ t.workers
  pub seats : t.words.seats ≡ t.workers

-- Each store of these steps was at this word and of at most this count.
abbrev pub StoresAtMost : ℕ → ℕ → List HintStep → Type 0
StoresAtMost number count steps =
    (word value : ℕ) → Contains steps (Store word value) → (word ≡ number) × (value ≤ count)

-- The counter is a worker's place at the tally, and has told no more than this count.
pub record IsCounter (t : Tally) (c : Counter) (count : ℕ) : Type 0 where
  pub is_tally : IsTally t
  pub table : c.seat.table ≡ t.words.table
  pub number : c.number < t.workers
  pub stores : StoresAtMost c.number count c.seat.steps

-- It is the same place, and has told no more than this count.
pub record CountsOn (t : Tally) (before after : Counter) (count : ℕ) : Type 0 where
  pub is : IsCounter t after count
  pub same : after.number ≡ before.number

-- The first w words were loaded, and their values add up to this total.
abbrev pub Loaded : List HintStep → ℕ → ℕ → Type 0
Loaded steps zero total = total ≡ 0
Loaded steps (suc w) total =
    (rest : ℕ) × (value : ℕ) × Loaded steps w rest × Contains steps (Load w value)
    × (total ≡ rest + value)

-- The words of so many workers were loaded, and by them so many packets are finished.
abbrev pub SawFinished : ℕ → ℕ → List HintStep → Type 0
SawFinished workers packets steps =
    (total : ℕ) × Loaded steps workers total × (packets ≤ total)

-- All packets had arrived, and were finished by the words of so many workers.
pub record HasFinished (workers packets : ℕ) (s : Seats) (c : Counter) : Type 0 where
  pub arrived : Contains s.hint.steps (Load DONE_WORD DONE_VALUE)
  pub saw : SawFinished workers packets c.seat.steps

-- ---- the closing

-- These are all seats of the tally.
pub record AreSeatsOf (t : Tally) (seats : List (SeatView HintStep)) : Type 0 where
  pub table : All (λ (s : SeatView HintStep). s.table ≡ t.words.table) seats
  pub count : length seats ≡ t.workers

-- The seat with number k stored no more than the k-th count, at its own word.
abbrev pub StoreAtMostTheirs : List ℕ → List (SeatView HintStep) → Type 0
StoreAtMostTheirs counts seats =
    Each (λ k (s : SeatView HintStep). (count : ℕ) × (slice_get counts k ≡ Some count)
    × StoresAtMost k count s.steps) seats

-- What was loaded of all words of a closed tally is no more than the sum of the counts.
abbrev pub LoadedCountsHold : Type 0
LoadedCountsHold =
    (counts : List ℕ) (seats : List (SeatView HintStep)) (seat : SeatView HintStep)
    (packets : ℕ) → LoadsAreStored seats → StoreAtMostTheirs counts seats
    → Contains seats seat → SawFinished (length counts) packets seat.steps
    → packets ≤ sum counts
