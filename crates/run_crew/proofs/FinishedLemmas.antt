-- Workers that have finished all packets have a full count.
use Rattle.run_coupling.proofs.Lists.SumLemmas.{sum-plus}
use Rattle.run_workers.specs.Hands.Pollers.{count_after}
use Rattle.run_workers.specs.Records.Polling.{accepted_turns}
use Rattle.run_workers.specs.Tally.{dropped_in, retired_in}
use Rattle.run_workers.specs.declared.drain.Drain.{Drain}
use Rattle.run_crew.specs.CountLaws.{accepted_of, chosen_of, retired_of}
use Rattle.run_crew.specs.Finished.{FinishedCrewsAreFull, finished_by_all}
use Rattle.run_crew.proofs.Names.{◌≡◌, ℕ, suc, ◌+◌, ◌-◌, ◌*◌, ◌/◌, ◌%◌, ◌<◌, ◌≤◌, List, [], ◌∷◌}
use Rattle.run_crew.proofs.Names.{Option, Some, None, length, sym, refl, ap, ◌∙◌, arith, slice_get}
use Rattle.run_crew.proofs.Names.{length-map, StepBy, steps_of, Put, At, Dropped, HintStep, Turn}
use Rattle.run_crew.proofs.Names.{sum_below, sum_same, oldest_first, Setup, actor_at, IsPolling}
use Rattle.run_crew.proofs.Names.{PolledTurn, Mark, StageView, Poller, IsFull, actor_of, played}
use Rattle.run_crew.proofs.Names.{BoardStep, AreWorking, pollers_of, ships_of, Seated}
use Rattle.run_crew.proofs.ChoiceFunctions.{item-at, none-some}
use Rattle.run_crew.proofs.DealtSumLemmas.{dealt-sum, sum_by-plus}
use Rattle.run_crew.proofs.ExecutionLemmas.{actor-is}
use Rattle.run_crew.proofs.TurnListLemmas.{length_turned}

-- ---- one poller

one-at-most : (n : ℕ) (a : Put) → count_after n a ≤ suc n
one-at-most n (At position) = omega arith
one-at-most n (Dropped number accepted pulled cause) = omega arith

accepted-few : (ss : List PolledTurn) → accepted_turns ss ≤ length ss
accepted-few [] = omega arith
accepted-few (s ∷ ss) =
    let rest = accepted-few ss in
    let one = one-at-most (accepted_turns ss) s.turn.answer in
    omega (arith, rest, one)

-- no more packets were accepted than were chosen for
accepted-within : (given : Setup) (first start : ℕ) (p : Poller) (turns : List (StepBy Turn))
    (marks : List (StepBy Mark)) (rx : List BoardStep) (hints : List HintStep)
    → IsPolling given first start p turns marks rx hints
    → p.accepted ≤ length p.choices.items
accepted-within given first start p turns marks rx hints x =
    let own = steps_of p.queue turns in
    let few = accepted-few x.polled in
    let accepted = x.accepted in
    let same = sym (length-map x.polled (λ (s : PolledTurn). s.turn)) ∙ ap length x.own in
    let turned = length_turned own in
    let all = ap length x.journal
    ∙ length-map (oldest_first own) (λ (u : Turn). u.chosen) in
    omega (arith, few, accepted, same, turned, all)

-- the packets that a poller has dropped; 0 if no worker plays it
abbrev dropped_of : Option Poller → ℕ
dropped_of None = 0
dropped_of (Some p) = length p.choices.items - p.accepted

-- ---- all workers

module _ (t : StageView) (crew : List Seated) (queues apps : ℕ)
    (are : AreWorking t crew queues apps) where
  abbrev W : ℕ
  W = length crew

  abbrev Q : ℕ
  Q = length t.shared.given.homes

  abbrev L : ℕ
  L = t.tx.sizes.lanes

  -- the number of each poller is that of a queue, and that of each ship a transmit queue's
  poller-low : (w k : ℕ) (x : Seated) (p : Poller) → slice_get crew w ≡ Some x
      → slice_get (pollers_of x) k ≡ Some p → k * W + w < Q
  poller-low w k x p there is =
      let y = (are.work w x there).pollers k p is in
      let place : p.queue ≡ k * W + w =
      y.own
      ∙ (ap (λ n. actor_at t.rx.sizes n k) (are.rx_numbers w x there)
      ∙ actor-is t.rx.sizes W w k are.rx_count are.some) in
      let within = y.within in
      omega (arith, place, within)

  ship-low : (w k : ℕ) (x : Seated) (d : Drain) → slice_get crew w ≡ Some x
      → slice_get (ships_of x) k ≡ Some d → k * W + w < L
  ship-low w k x d there is =
      let y = (are.work w x there).ships k d is in
      let place : d.lane ≡ k * W + w =
      y.own
      ∙ (ap (λ n. actor_at t.tx.sizes n k) (are.tx_numbers w x there)
      ∙ actor-is t.tx.sizes W w k are.tx_count are.some) in
      let within = y.within in
      omega (arith, place, within)

  -- what a queue dropped and what it had accepted is what it chose for
  balanced : (w k : ℕ) (o : Option Seated) (p : Option Poller) → slice_get crew w ≡ o
      → actor_of pollers_of o k ≡ p → dropped_of p + accepted_of p ≡ chosen_of p
  balanced w k o None there is = refl
  balanced w k None (Some p) there is = none-some p is
  balanced w k (Some x) (Some p) there is =
      let y = are.work w x there in
      let few = accepted-within t.shared.given _ _ p _ _ _ _ (y.pollers k p is).keeps in
      omega (arith, few)

  dropped-all : sum_below (λ q. dropped_of (played crew pollers_of q)) Q
      + sum_below (λ q. accepted_of (played crew pollers_of q)) Q
      ≡ sum_below (λ q. chosen_of (played crew pollers_of q)) Q
  dropped-all =
      sym (sum-plus (λ q. dropped_of (played crew pollers_of q))
      (λ q. accepted_of (played crew pollers_of q)) Q)
      ∙ sum_same (λ q. dropped_of (played crew pollers_of q)
      + accepted_of (played crew pollers_of q)) (λ q. chosen_of (played crew pollers_of q)) Q
      (λ q less. balanced (q % W) (q / W) (slice_get crew (q % W)) (played crew pollers_of q) refl
      refl)

  finished-all : finished_by_all crew
      ≡ sum_below (λ q. dropped_of (played crew pollers_of q)) Q
      + sum_below (λ l. retired_of (played crew ships_of l)) L
  finished-all =
      let dropped = dealt-sum crew pollers_of dropped_of Q refl are.some poller-low in
      let retired = dealt-sum crew ships_of retired_of L refl are.some ship-low in
      let parts = sum_by-plus (λ (x : Seated). dropped_in (pollers_of x))
      (λ (x : Seated). retired_in (ships_of x)) crew in
      omega (arith, dropped, retired, parts)

  full : (n : ℕ) → n ≤ finished_by_all crew → IsFull crew Q t.shared.given.txs n
  full n few =
      let all = finished-all in
      let dropped = dropped-all in
      let lanes = ap (sum_below (λ l. retired_of (played crew ships_of l)))
      (are.work 0 first.0 first.1).sizes.maps.lanes in
      omega (arith, few, all, dropped, lanes)
    where
      first : (x : Seated) × (slice_get crew 0 ≡ Some x)
      first = item-at crew 0 are.some

pub finished_crews_are_full : FinishedCrewsAreFull
finished_crews_are_full t crew queues apps n are few = full t crew queues apps are n few
