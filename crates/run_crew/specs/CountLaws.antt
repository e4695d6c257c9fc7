-- The one count by which the sweep of a run sees that it has ended.
use Rattle.std.specs.Prelude.{◌≡◌, ℕ, ◌+◌, ◌/◌, ◌%◌, ◌≤◌, List, Option, Some, None, length}
use Rattle.std.specs.Prelude.{slice_get}
use Rattle.history.specs.declared.history.History.{History}
use Rattle.hop_rule.specs.Events.{sum_below}
use Rattle.board_api.specs.Closings.Closings.{HasEnded, own_in}
use Rattle.board_api.specs.Seats.{BoardSeatView}
use Rattle.board_api.specs.declared.lists.BoardLists.{BoardLists}
use Rattle.run_workers.specs.declared.drain.Drain.{Drain}
use Rattle.run_workers.specs.declared.poller.Poller.{Poller}
use Rattle.steer_model.specs.Good.Inputs.{Input}
use Rattle.history.specs.Lists.{list_at}
use Rattle.history.specs.declared.sent.Sent.{Sent}
use Rattle.run_coupling.specs.Coupling.Applications.{WasFoundAt}
use Rattle.run_coupling.specs.Laws.OneCount.{TotalsAreEqual, choice_count}
use Rattle.run_workers.specs.Stages.{StageView}
use Rattle.run_crew.specs.Crews.{pollers_of, ships_of}
use Rattle.run_crew.specs.declared.seated.Seated.{Seated}
use Rattle.run_crew.specs.DrainLaws.{AreDrained}
use Rattle.run_crew.specs.QueueLaws.{ReceiveEnds}
use Rattle.run_crew.specs.ReplyLaws.{TransmitEnds}
use Rattle.run_crew.specs.Executions.{SeatTurns}

-- The actor that a worker plays at a place of its kind, if there is one.
abbrev pub actor_of : {A : Type 0} → (Seated → List A) → Option Seated → ℕ → Option A
actor_of kind None k = None
actor_of kind (Some x) k = slice_get (kind x) k

-- The actor with a number.
abbrev pub played : {A : Type 0} → List Seated → (Seated → List A) → ℕ → Option A
played crew kind n = actor_of kind (slice_get crew (n % length crew)) (n / length crew)

-- How many packets a queue has accepted, how many a transmit queue has retired, and how many a
-- queue has chosen for; 0 if no worker plays it.
abbrev pub accepted_of : Option Poller → ℕ
accepted_of None = 0
accepted_of (Some p) = p.accepted

abbrev pub retired_of : Option Drain → ℕ
retired_of None = 0
retired_of (Some d) = d.retired

abbrev pub chosen_of : Option Poller → ℕ
chosen_of None = 0
chosen_of (Some p) = length p.choices.items

-- Of n packets each was retired at the transmit board or dropped: the packets that were chosen for
-- and not accepted are those that were dropped. No more are finished than there are, which is known
-- at the closing of the boards.
abbrev pub IsFull : List Seated → (queues lanes packets : ℕ) → Type 0
IsFull crew queues lanes n =
    n + sum_below (λ q. accepted_of (played crew pollers_of q)) queues
    ≤ sum_below (λ l. retired_of (played crew ships_of l)) lanes
    + sum_below (λ q. chosen_of (played crew pollers_of q)) queues

-- If this count is full, and not more choices were made than there are packets, the totals of a
-- run's end are equal.
abbrev pub FullCountsSuffice : Type 0
FullCountsSuffice =
    (i : Input) (h : History) (t : StageView) (crew : List Seated) (turns : ℕ → SeatTurns)
    (rx_seats tx_seats : List BoardSeatView) (rx_lists tx_lists : BoardLists) (n : ℕ)
    → HasEnded t.rx.sizes rx_seats rx_lists → HasEnded t.tx.sizes tx_seats tx_lists
    → ReceiveEnds i t crew turns (own_in rx_seats) h.choices
    → TransmitEnds i h t crew turns (own_in rx_seats) (own_in tx_seats)
    → AreDrained t.tx.sizes crew ships_of
    → ((a k : ℕ) (s : Sent) → slice_get (list_at h.sent a) k ≡ Some s
    → WasFoundAt (own_in rx_seats) a k s.id)
    → h.inboxes ≡ rx_lists.outs → choice_count h.choices ≤ n
    → IsFull crew (length i.plan.queues) t.tx.sizes.lanes n
    → TotalsAreEqual h t.rx.sizes (own_in rx_seats) t.tx.sizes (own_in tx_seats) n
