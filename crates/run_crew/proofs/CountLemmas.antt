-- A full count makes the totals of a run's end equal.
use Rattle.std.proofs.lemmas.List.{length-append}
use Rattle.std.proofs.lemmas.Nat.{mod_below}
use Rattle.history.specs.Lists.{lane_at}
use Rattle.hop_rule.proofs.Gates.{sum_one}
use Rattle.board_api.specs.Closings.Closings.{own_in}
use Rattle.board_api.specs.OwnSteps.{accepted_by}
use Rattle.board_api.specs.declared.lists.BoardLists.{BoardLists}
use Rattle.run_coupling.specs.Laws.OneCount.{ChoicesAreOfTurns, TotalsAreEqual, choice_count}
use Rattle.run_coupling.specs.Laws.OneCount.{delivered_count}
use Rattle.run_coupling.specs.Coupling.Applications.{WasFoundAt}
use Rattle.run_coupling.specs.Coupling.Ends.{accepted_count, retired_count}
use Rattle.run_coupling.proofs.Ends.PutCountLemmas.{puts-are-chosen}
use Rattle.run_coupling.proofs.Ends.TotalLemmas.{all-delivered}
use Rattle.run_coupling.proofs.Lists.SumLemmas.{sum-le, sum-swap}
use Rattle.run_coupling.proofs.Runs.ApplicationLemmas.{front-from}
use Rattle.run_coupling.proofs.Runs.FactLemmas.{BoardFacts, facts_at_closings}
use Rattle.run_crew.specs.CountLaws.{FullCountsSuffice, accepted_of, chosen_of, retired_of}
use Rattle.run_crew.specs.DrainLaws.{AreDrained}
use Rattle.run_crew.proofs.Names.{◌≡◌, ◌≢◌, ◌⊎◌, inl, inr, ℕ, zero, suc, ◌+◌, ◌/◌, ◌%◌, ◌<◌, ◌≤◌}
use Rattle.run_crew.proofs.Names.{List, [], ◌∷◌, ◌++◌, Some, All, length, map, sym, refl, ap, ◌∙◌}
use Rattle.run_crew.proofs.Names.{arith, slice_get, cases_lt, length-map, StepBy, Chosen, list_at}
use Rattle.run_crew.proofs.Names.{History, Sent, sum_below, BoardSizes, BoardStep, sum_same, Turn}
use Rattle.run_crew.proofs.Names.{Input, StageView, IsFull, actor_of, played, IsPlayed, pollers_of}
use Rattle.run_crew.proofs.Names.{ships_of, Seated, ReceiveEnds, TransmitEnds, SeatTurns}
use Rattle.run_crew.proofs.Names.{queue_execution, reply_execution}
use Rattle.run_crew.proofs.AcceptedLemmas.{accepted-fit, accepted-is, answers-are, answers_in}
use Rattle.run_crew.proofs.AcceptedLemmas.{by-producers, taken, taken_by}
use Rattle.run_crew.proofs.ChoiceFunctions.{none-some, some-is}
use Rattle.run_crew.proofs.DrainLemmas.{drains_keep_coupling}
use Rattle.run_crew.proofs.QueueTurnLemmas as queues
use Rattle.run_crew.proofs.ReplyTurnLemmas as replies
use Rattle.run_crew.proofs.ExecutionLemmas.{AreBoardTurns, by-seat, keep-turns, none-of}

-- the actor that is played is found
pub played-is : {A : Type 0} (crew : List Seated) (kind : Seated → List A) (n : ℕ)
    (p : IsPlayed crew kind n) → played crew kind n ≡ Some p.actor
played-is crew kind n p =
    ap (λ x. actor_of kind x (n / length crew)) p.worker ∙ p.is

get-front : {A : Type 0} (xs more : List A) (k : ℕ) (x : A) → slice_get xs k ≡ Some x
    → slice_get (xs ++ more) k ≡ Some x
get-front [] more k x at = none-some x at
get-front (y ∷ xs) more zero x at = at
get-front (y ∷ xs) more (suc k) x at = get-front xs more k x at

-- the reply at a place, by its packet
id-at : (ss : List Sent) (k x : ℕ) → slice_get (map (λ (s : Sent). s.id) ss) k ≡ Some x
    → (s : Sent) × (slice_get ss k ≡ Some s) × (s.id ≡ x)
id-at [] k x at = none-some x at
id-at (s ∷ ss) zero x at = (s, refl, some-is s.id x at)
id-at (s ∷ ss) (suc k) x at = id-at ss k x at

-- ---- what the lanes accepted, by the turns of their producers

module _ (about : BoardSizes) (count : ℕ) (own : ℕ → List BoardStep)
    (turns : ℕ → List (StepBy Turn)) (choices : List (List Chosen)) (seats : ℕ)
    (all_seats : about.seats ≡ seats + 1) (are : AreBoardTurns seats count own turns choices)
  where
    below : (q : ℕ) → All (λ (d : StepBy Turn). d.by < count) (turns q)
    below q = at (cases_lt q seats)
      where
        at : (q < seats) ⊎ (seats ≤ q) → All (λ (d : StepBy Turn). d.by < count) (turns q)
        at (inl less) = λ k d within. (are.mine q less k d within).1
        at (inr more) =
            λ k d within. absurd (nothing (ap length (are.others q more)) within)
          where
            nothing : {m k : ℕ} → m ≡ 0 → k < m → ⊥
            nothing none low = omega (arith, none, low)

    -- a producer has no turns at other seats
    elsewhere : (p q : ℕ) → q ≢ p % seats → taken_by p (turns q) ≡ 0
    elsewhere p q other =
        ap (λ us. taken (answers_in us))
        (none-of p (turns q)
        (λ k d within same.
        other (sym (by-seat seats count own turns choices are q k d within)
        ∙ ap (λ n. n % seats) same)))

    at-one-seat : (p : ℕ) → sum_below (λ q. taken_by p (turns q)) about.seats
        ≡ taken_by p (turns (p % seats))
    at-one-seat p =
        let low = mod_below p seats are.some in
        let one = sum_one (λ q. taken_by p (turns q)) (λ q. 0) about.seats (p % seats)
        (omega (arith, low, all_seats)) (λ q less other. elsewhere p q other) in
        let none = zeros about.seats in
        omega (arith, one, none)
      where
        zeros : (n : ℕ) → sum_below (λ q. 0) n ≡ 0
        zeros zero = refl
        zeros (suc n) = let rest = zeros n in omega (arith, rest)

    pub accepted-below : sum_below (accepted_count about own) about.lanes
        ≤ sum_below (λ p. taken_by p (turns (p % seats))) count
    accepted-below =
        let swap = sum-swap (λ l q. length (accepted_by l (own q))) about.lanes about.seats in
        let fit = sum-le (λ q. sum_below (λ l. length (accepted_by l (own q))) about.lanes)
        (λ q. sum_below (λ p. taken_by p (turns q)) count) about.seats
        (λ q less.
        let a = accepted-fit about.lanes (own q) in
        let b = ap taken (answers-are (own q) (turns q) (are.explained q)) in
        let c = by-producers count (turns q) (below q) in
        omega (arith, a, b, c)) in
        let turn = sum-swap (λ q p. taken_by p (turns q)) about.seats count in
        let last = sum_same (λ p. sum_below (λ q. taken_by p (turns q)) about.seats)
        (λ p. taken_by p (turns (p % seats))) count (λ p less. at-one-seat p) in
        omega (arith, swap, fit, turn, last)

-- ---- one board

module _ (about : BoardSizes) (own : ℕ → List BoardStep) (lists : BoardLists)
    (facts : BoardFacts about own lists) where
  retired-below : sum_below (retired_count about own) about.lanes
      ≤ sum_below (accepted_count about own) about.lanes
  retired-below =
      sum-le (retired_count about own) (accepted_count about own) about.lanes
      (λ l less.
      let a = (facts.sums l less).accepted in
      let r = (facts.served l less).retired in
      let t = facts.turn l in
      let t0 = t.retired in
      let t1 = t.delivered in
      let t2 = t.pulled in
      omega (arith, a, r, t0, t1, t2))

  delivered-below : sum_below (delivered_count about own) about.lanes
      ≤ sum_below (accepted_count about own) about.lanes
  delivered-below =
      sum-le (delivered_count about own) (accepted_count about own) about.lanes
      (λ l less.
      let a = (facts.sums l less).accepted in
      let r = (facts.served l less).delivered in
      let t = facts.turn l in
      let t1 = t.delivered in
      let t2 = t.pulled in
      omega (arith, a, r, t1, t2))

  outs-delivered : sum_below (λ o. length (list_at lists.outs o)) about.outs
      ≡ sum_below (delivered_count about own) about.lanes
  outs-delivered =
      all-delivered about own lists facts.fit facts.gives.within facts.places facts.served
      facts.outs
      ∙ sum_same (λ l. (lane_at lists.lanes l).delivered) (delivered_count about own) about.lanes
      (λ l less. (facts.served l less).delivered)

-- ---- a run

module _ (i : Input) (h : History) (t : StageView) (crew : List Seated) (turns : ℕ → SeatTurns)
    (rx_own own : ℕ → List BoardStep) (rx_lists lists : BoardLists) (n : ℕ)
    (rx_facts : BoardFacts t.rx.sizes rx_own rx_lists) (facts : BoardFacts t.tx.sizes own lists)
    (received : ReceiveEnds i t crew turns rx_own h.choices)
    (e : TransmitEnds i h t crew turns rx_own own)
    (ships : AreDrained t.tx.sizes crew ships_of)
    (found : (a k : ℕ) (s : Sent) → slice_get (list_at h.sent a) k ≡ Some s
    → WasFoundAt rx_own a k s.id)
    (inboxes : h.inboxes ≡ rx_lists.outs) (few : choice_count h.choices ≤ n)
    (full : IsFull crew (length i.plan.queues) t.tx.sizes.lanes n) where
  abbrev W : ℕ
  W = length crew

  abbrev Q : ℕ
  Q = length i.plan.queues

  -- each reply is of the packet at its place in the inbox
  stands : (a k x : ℕ) → slice_get (map (λ (s : Sent). s.id) (list_at h.sent a)) k ≡ Some x
      → slice_get (list_at h.inboxes a) k ≡ Some x
  stands a k x at =
      let s = id-at (list_at h.sent a) k x at in
      let f = found a k s.0 s.1 in
      let hold = rx_facts.holds.out f.seat f.step a f.word f.found f.does in
      ap (λ ls. slice_get (list_at ls a) k) inboxes
      ∙ (ap (λ xs. slice_get xs k) hold.front.1
      ∙ get-front f.found.items hold.front.0 k x (f.there ∙ ap (λ m. Some m) s.2))

  sent-below : sum_below (λ a. length (list_at h.sent a)) t.rx.sizes.outs
      ≤ sum_below (delivered_count t.rx.sizes rx_own) t.rx.sizes.lanes
  sent-below =
      let below = sum-le (λ a. length (list_at h.sent a))
      (λ a. length (list_at rx_lists.outs a)) t.rx.sizes.outs
      (λ a less.
      let f = front-from (map (λ (s : Sent). s.id) (list_at h.sent a)) (list_at h.inboxes a)
      (λ k x at. stands a k x at) in
      let size = length-map (list_at h.sent a) (λ (s : Sent). s.id) in
      let all = length-append (map (λ (s : Sent). s.id) (list_at h.sent a)) f.0 in
      let same = ap length f.1 in
      let out = ap (λ z. length (list_at z a)) inboxes in
      omega (arith, size, all, same, out)) in
      let outs = outs-delivered t.rx.sizes rx_own rx_lists rx_facts in
      omega (arith, below, outs)

  choices-sent : choice_count h.tx_choices
      ≡ sum_below (λ a. length (list_at h.sent a)) t.rx.sizes.outs
  choices-sent =
      ap (λ m. sum_below (λ a. length (list_at h.tx_choices a)) m)
      (e.choice_count ∙ sym e.out_count)
      ∙ sum_same (λ a. length (list_at h.tx_choices a)) (λ a. length (list_at h.sent a))
      t.rx.sizes.outs
      (λ a less.
      sym (length-map (list_at h.tx_choices a) (λ (c : Chosen). c.id))
      ∙ (ap length (replies.all-chosen i h t crew turns rx_own own e a)
      ∙ length-map (list_at h.sent a) (λ (s : Sent). s.id)))

  -- what the pollers counted is what was accepted by their turns
  accepted-counted : (q : ℕ) → q < Q → accepted_of (played crew pollers_of q)
      ≡ taken_by q (turns (q % W)).steered
  accepted-counted q less =
      let p = received.work.pollers q less in
      let y = queues.has i t crew turns rx_own h.choices received (q % W) p.by p.worker in
      let k = queues.keeps-poller i t crew turns rx_own h.choices received q p in
      ap accepted_of (played-is crew pollers_of q p)
      ∙ (k.keeps.accepted
      ∙ (accepted-is k.keeps.polled
      ∙ (ap (λ us. taken (answers_in us)) k.keeps.own
      ∙ (ap (λ m. taken_by m y.is.turns)
      (queues.queue-is i t crew turns rx_own h.choices received q p)
      ∙ ap (taken_by q) y.steered))))

  chosen-counted : sum_below (λ q. chosen_of (played crew pollers_of q)) Q
      ≡ choice_count h.choices
  chosen-counted =
      sum_same (λ q. chosen_of (played crew pollers_of q)) (λ q. length (list_at h.choices q)) Q
      (λ q less.
      let p = received.work.pollers q less in
      ap chosen_of (played-is crew pollers_of q p)
      ∙ sym (ap length (received.choices_are.are q less p)))
      ∙ ap (λ m. sum_below (λ q. length (list_at h.choices q)) m) (sym received.choices_are.count)

  retired-counted : (l : ℕ) → l < t.tx.sizes.lanes
      → retired_of (played crew ships_of l) ≡ retired_count t.tx.sizes own l
  retired-counted l less =
      let coupled = drains_keep_coupling.transmits t crew Q (length i.plan.apps) own ships e.work
      e.lists in
      ap retired_of (played-is crew ships_of l (ships.each l less)) ∙ sym (coupled.retired l less)

  queue-turns : ChoicesAreOfTurns t.rx.sizes rx_own
      (queue_execution crew turns h.choices (λ q. map (λ (c : Chosen). c.id) (list_at h.choices q)))
      h.choices
  queue-turns =
      record {
        turns = keep-turns W Q rx_own (λ w. (turns w).steered) h.choices
            (queues.board-turns i t crew turns rx_own h.choices received) _ (λ q. refl);
        journals = λ q. refl;
      }

  reply-turns : ChoicesAreOfTurns t.tx.sizes own
      (reply_execution crew turns h.tx_choices
      (λ a. map (λ (c : Chosen). c.id) (list_at h.tx_choices a))) h.tx_choices
  reply-turns =
      record {
        turns = keep-turns W (length i.plan.apps) own (λ w. (turns w).replied) h.tx_choices
            (replies.board-turns i h t crew turns rx_own own e) _ (λ a. refl);
        journals = λ a. refl;
      }

  full-count : TotalsAreEqual h t.rx.sizes rx_own t.tx.sizes own n
  full-count =
      let a = puts-are-chosen t.rx.sizes rx_own _ h.choices queue-turns in
      let b = delivered-below t.rx.sizes rx_own rx_lists rx_facts in
      let c = sent-below in
      let d = choices-sent in
      let f = puts-are-chosen t.tx.sizes own _ h.tx_choices reply-turns in
      let g = retired-below t.tx.sizes own lists facts in
      let counted = chosen-counted in
      let accepted = sum_same (λ q. accepted_of (played crew pollers_of q))
      (λ q. taken_by q (turns (q % W)).steered) Q accepted-counted in
      let most = accepted-below t.rx.sizes Q rx_own (λ w. (turns w).steered) h.choices W
      received.work.rx_count
      (queues.board-turns i t crew turns rx_own h.choices received) in
      let retired = sum_same (λ l. retired_of (played crew ships_of l))
      (retired_count t.tx.sizes own) t.tx.sizes.lanes retired-counted in
      record {
        chosen = omega (arith, a, b, c, d, f, g, accepted, most, retired, few, full, counted);
        sent = omega (arith, a, b, c, d, f, g, accepted, most, retired, few, full, counted);
        replied = omega (arith, a, b, c, d, f, g, accepted, most, retired, few, full, counted);
        received = λ done.
            let last = sum_same (delivered_count t.rx.sizes rx_own)
            (retired_count t.rx.sizes rx_own) t.rx.sizes.lanes done in (
              omega (arith, a, b, c, d, f, g, accepted, most, retired, few, full, counted, last),
              omega (arith, a, b, c, d, f, g, accepted, most, retired, few, full, counted, last),
            );
      }

pub full_counts_suffice : FullCountsSuffice
full_counts_suffice i h t crew turns rx_seats tx_seats rx_lists tx_lists n rx_ended tx_ended
    received e ships found inboxes few full =
    full-count i h t crew turns (own_in rx_seats) (own_in tx_seats) rx_lists tx_lists n
    (facts_at_closings t.rx.sizes rx_seats rx_lists rx_ended)
    (facts_at_closings t.tx.sizes tx_seats tx_lists tx_ended) received e ships found inboxes few
    full
