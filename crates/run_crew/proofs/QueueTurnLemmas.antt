-- The turns of the receive queues explain the workers' lists, and are those of their journals.
use Rattle.run_workers.specs.Actors.{KeepsPoller}
use Rattle.run_crew.specs.QueueLaws.{QueuesKeepTurns}
use Rattle.run_crew.proofs.Names.{◌≡◌, ℕ, ◌/◌, ◌%◌, ◌<◌, List, Some, length, ap, ◌∙◌, subst}
use Rattle.run_crew.proofs.Names.{slice_get, length-map, steps_of, Chosen, list_at, BoardStep}
use Rattle.run_crew.proofs.Names.{QueuePlan, Poller, Input, choices_in, Each, StageView, IsPlayed}
use Rattle.run_crew.proofs.Names.{pollers_of, Seated, ReceiveEnds, HasTurns, SeatTurns}
use Rattle.run_crew.proofs.ExecutionLemmas.{AreBoardTurns, IsSeatOf, keep-turns, played-choices}
use Rattle.run_crew.proofs.ExecutionLemmas.{played-number, seat-of, turns-of-board}

module _ (i : Input) (t : StageView) (crew : List Seated) (turns : ℕ → SeatTurns)
    (own : ℕ → List BoardStep) (choices : List (List Chosen))
    (e : ReceiveEnds i t crew turns own choices) where
  abbrev W : ℕ
  W = length crew

  pub home-count : length t.shared.given.homes ≡ length i.plan.queues
  home-count =
      ap (λ g. length g.homes) e.given ∙ length-map i.plan.queues (λ (q : QueuePlan). q.home)

  -- a worker's record, with its turns
  pub has : (w : ℕ) (x : Seated) → slice_get crew w ≡ Some x → HasTurns t x (turns w)
  has = e.turns_are.workers

  -- ---- the record of a poller

  pub keeps-poller : (q : ℕ) (p : IsPlayed crew pollers_of q)
      → KeepsPoller t p.by.seats (has (q % W) p.by p.worker).is.first
      (has (q % W) p.by p.worker).is.turns (has (q % W) p.by p.worker).is.marks (q / W) p.actor
  keeps-poller q p = (has (q % W) p.by p.worker).is.pollers (q / W) p.actor p.is

  pub queue-is : (q : ℕ) (p : IsPlayed crew pollers_of q) → p.actor.queue ≡ q
  queue-is q p =
      played-number t.rx.sizes W q p.actor.queue p.by.seats.rx.number e.work.rx_count e.work.some
      (keeps-poller q p).own (e.work.rx_numbers (q % W) p.by p.worker)

  journal-is : (q : ℕ) → q < length i.plan.queues → list_at choices q
      ≡ choices_in (steps_of q (turns (q % W)).steered)
  journal-is q less =
      let p = e.work.pollers q less in
      let y = has (q % W) p.by p.worker in
      e.choices_are.are q less p
      ∙ ((keeps-poller q p).keeps.journal
      ∙ played-choices p.actor.queue q y.is.turns (turns (q % W)).steered (queue-is q p) y.steered)

  seat : Each (λ w x. IsSeatOf t.rx.sizes (length i.plan.queues) w (own w) (turns w).steered) crew
  seat w x there =
      let y = has w x there in
      let count = home-count in
      seat-of t.rx.sizes (length i.plan.queues) x.worker.pollers.items (λ (p : Poller). p.queue)
      x.seats.rx.number w x.seats.rx.steps (own w) y.is.turns (turns w).steered
      (e.work.rx_numbers w x there) (e.lists w x there) y.steered y.is.steered y.is.by_pollers
      (λ k p got. (let keeps = y.is.pollers k p got in
      (keeps.own, subst (λ n. p.queue < n) count keeps.within)))

  pub board-turns : AreBoardTurns W (length i.plan.queues) own (λ w. (turns w).steered) choices
  board-turns =
      turns-of-board t.rx.sizes crew (length i.plan.queues) own (λ w. (turns w).steered) choices
      e.work.some e.work.rx_count seat (λ w more. ap (λ s. s.steered) (e.turns_are.others w more))
      e.others e.choices_are.count journal-is

pub queues_keep_turns : QueuesKeepTurns
queues_keep_turns i t crew turns own choices arrivals e all =
    keep-turns (length crew) (length i.plan.queues) own (λ w. (turns w).steered) choices
    (board-turns i t crew turns own choices e) arrivals all
