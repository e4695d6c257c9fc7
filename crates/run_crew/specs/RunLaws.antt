-- What all threads of a run keep, and what the closings tell, makes a run.
use Rattle.std.specs.Prelude.{◌≡◌, ◌⊎◌, ℕ, ◌<◌, List, Some, All, length, map, slice_get}
use Rattle.std.specs.Prelude.{slice_index}
use Rattle.std.specs.List.{Contains}
use Rattle.linearization.specs.Seats.{SeatView}
use Rattle.steer_base.specs.Orders.{IsPrefix}
use Rattle.steer_base.specs.declared.choice.Chosen.{Chosen}
use Rattle.hint_words.specs.Closings.{HaveEnded}
use Rattle.hint_words.specs.declared.step.HintStep.{HintStep}
use Rattle.history.specs.Lists.{arrivals_at, list_at}
use Rattle.history.specs.declared.arrival.Arrival.{Arrival}
use Rattle.history.specs.declared.history.History.{History}
use Rattle.board_api.specs.Closings.Closings.{HasEnded, own_in}
use Rattle.board_api.specs.Seats.{BoardSeatView}
use Rattle.board_api.specs.declared.lists.BoardLists.{BoardLists}
use Rattle.steer_model.specs.Good.Inputs.{Input}
use Rattle.run_coupling.specs.Laws.SharedCodes.{AreShared}
use Rattle.run_coupling.specs.Coupling.Boards.{IsReceiveBoard, IsTransmitBoard}
use Rattle.run_coupling.specs.Coupling.Hints.{HintCodes}
use Rattle.run_coupling.specs.Coupling.Runs.{IsRun}
use Rattle.run_coupling.specs.Coupling.Tries.{Try}
use Rattle.run_crew.specs.ArrivalLaws.{ArrivalsAreCoupled}
use Rattle.run_controller.specs.Laws.{CommandsAreCoupled}
use Rattle.run_workers.specs.Stages.{StageView}
use Rattle.run_crew.specs.declared.seated.Seated.{Seated}
use Rattle.run_crew.specs.CountLaws.{IsFull}
use Rattle.run_crew.specs.Crews.{drains_of, ships_of}
use Rattle.run_crew.specs.DrainLaws.{AreDrained}
use Rattle.run_crew.specs.QueueLaws.{ReceiveEnds}
use Rattle.run_crew.specs.ReplyLaws.{TransmitEnds}
use Rattle.run_crew.specs.Executions.{SeatTurns}

-- The seats at the hint words and their endings: each seat is a worker's, the controller's or the
-- wire's; all workers' are among them.
pub record HintsEnd (crew : List Seated) (seats : List (SeatView HintStep))
    (controller wire : SeatView HintStep) : Type 0 where
  pub workers : (w : ℕ) (x : Seated) → slice_get crew w ≡ Some x → Contains seats x.seats.hint
  pub each : (seat : SeatView HintStep) → Contains seats seat
      → ((w : ℕ) × (x : Seated) × (slice_get crew w ≡ Some x) × (x.seats.hint ≡ seat))
      ⊎ (controller ≡ seat) ⊎ (wire ≡ seat)
  pub ended : HaveEnded seats

-- What the history copies of the input and of the boards, and its lists of what was taken.
pub record IsCopied (i : Input) (h : History) (t : StageView) (rx_lists tx_lists : BoardLists)
    : Type 0 where
  pub total : h.total ≡ length i.packets
  pub cut : h.cut ≡ i.cut
  pub start : h.start ≡ i.plan.start
  pub rx_board : IsReceiveBoard i h t.rx.sizes rx_lists
  pub tx_board : IsTransmitBoard i h t.tx.sizes tx_lists
  pub taken_count : length h.taken ≡ length i.plan.queues
  pub taken : (q : ℕ) → slice_index h.taken q ≡ length (list_at h.choices q)

-- All that is known at the end of a run: its input and history, the workers with their turns, the
-- endings of both boards and of the hint words, the coupling invariants of the controller and of
-- the wire, that each queue chose for a front of its arrivals, and that the count is full.
pub record RunEnds (i : Input) (h : History) : Type 0 where
  pub t : StageView
  pub crew : List Seated
  pub turns : ℕ → SeatTurns
  pub rx_seats : List BoardSeatView
  pub tx_seats : List BoardSeatView
  pub rx_lists : BoardLists
  pub tx_lists : BoardLists
  pub rx_ended : HasEnded t.rx.sizes rx_seats rx_lists
  pub tx_ended : HasEnded t.tx.sizes tx_seats tx_lists
  pub received : ReceiveEnds i t crew turns (own_in rx_seats) h.choices
  pub sent : TransmitEnds i h t crew turns (own_in rx_seats) (own_in tx_seats)
  pub drains : AreDrained t.rx.sizes crew drains_of
  pub ships : AreDrained t.tx.sizes crew ships_of
  pub filters : t.shared.filters ≡ i.plan.filters
  pub copied : IsCopied i h t rx_lists tx_lists
  pub codes : HintCodes
  pub shared : AreShared codes
  pub hint_seats : List (SeatView HintStep)
  pub controller : SeatView HintStep
  pub wire : SeatView HintStep
  pub hints : HintsEnd crew hint_seats controller wire
  pub tries : List Try
  pub commands : CommandsAreCoupled i h t.rx.sizes t.tx.sizes (own_in rx_seats) (own_in tx_seats)
      codes controller tries
  pub arrivals : ArrivalsAreCoupled i h codes hint_seats wire
  pub within : All (λ (a : Arrival). a.queue < length i.plan.queues) h.arrivals
  pub fronts : (q : ℕ) → IsPrefix (map (λ (c : Chosen). c.id) (list_at h.choices q))
      (arrivals_at h.arrivals q)
  pub full : IsFull crew (length i.plan.queues) t.tx.sizes.lanes (length i.packets)

-- Then the history is that of a run.
abbrev pub EndedRunsAreRuns : Type 0
EndedRunsAreRuns = (i : Input) (h : History) → RunEnds i h → IsRun i h
