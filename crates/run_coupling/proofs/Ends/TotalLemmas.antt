-- The deliveries of all seats, counted by out lane and by lane, and so the replies by totals.
use Rattle.std.proofs.Common.{◌%◌}
use Rattle.std.specs.Prelude.{max}
use Rattle.std.proofs.Math.Nat.{mod-lt}
use Rattle.history.specs.declared.sent.Sent.{Sent}
use Rattle.hop_rule.proofs.Gates.{sum_one, sum_same}
use Rattle.board_api.specs.Laws.Lanes.{OutsAreSums}
use Rattle.board_api.specs.OwnSteps.{given_to}
use Rattle.run_coupling.specs.Laws.Ends.{RepliesSuffice}
use Rattle.run_coupling.proofs.Names.{◌≡◌, ◌≢◌, ℕ, zero, suc, ◌-◌, ◌<◌, ◌≤◌, List, [], ◌∷◌, Some}
use Rattle.run_coupling.proofs.Names.{None, length, map, All, sym, refl, ap, ◌∙◌, arith}
use Rattle.run_coupling.proofs.Names.{length-append, cons_option, length-map, All-cons, All-head}
use Rattle.run_coupling.proofs.Names.{All-nil, All-tail, if_same, if_other, lane_at, list_at}
use Rattle.run_coupling.proofs.Names.{Delivery, delivery, sum_below, nth_step, FitSizes, puller}
use Rattle.run_coupling.proofs.Names.{BoardSizes, BoardStep, Counted, Gate, Lane, LaneIn, LaneOut}
use Rattle.run_coupling.proofs.Names.{OutCounted, Weighed, Freed, Given, Held, Missed, OutFreed}
use Rattle.run_coupling.proofs.Names.{OutHeld, OutMissed, Retired, nth-inside, nth-last, nth-old}
use Rattle.run_coupling.proofs.Names.{DeliveriesHavePlaces, LanesAreInTurn, LanesAreServedByOne}
use Rattle.run_coupling.proofs.Names.{CountsAreSums, Has, delivered_by, delivered_in, BoardLists}
use Rattle.run_coupling.proofs.Names.{retired_count}
use Rattle.run_coupling.proofs.Ends.EndLemmas.{delivered-step, nth-filter}
use Rattle.run_coupling.proofs.Lists.SumLemmas.{each-equal, sum-swap}

-- the step is no delivery, or one from a lane of so many to an out lane of so many
abbrev GivesIn : ℕ → ℕ → BoardStep → Type 0
GivesIn outs lanes (Lane (Given o from id place)) = (o < outs) × (from < lanes)
GivesIn outs lanes _ = Unit {0}

sum_none : (n : ℕ) → sum_below (λ q. 0) n ≡ 0
sum_none zero = refl
sum_none (suc n) = let rest = sum_none n in omega arith

-- one more at one index makes one more in all
one-more : (f g : ℕ → ℕ) (n k : ℕ) → k < n → f k ≡ suc (g k)
    → ((p : ℕ) → p ≢ k → f p ≡ g p) → sum_below f n ≡ suc (sum_below g n)
one-more f g n k less here other =
    let e = sum_one f g n k less (λ p _ ne. other p ne) in omega arith

module _ (outs lanes : ℕ) where
  -- the deliveries of a list, by out lane and by lane, are equally many
  same-gives : (ds : List BoardStep) → All (GivesIn outs lanes) ds
      → sum_below (λ o. length (given_to o ds)) outs
      ≡ sum_below (λ l. length (delivered_by l ds)) lanes
  same-gives [] all = sum_none outs ∙ sym (sum_none lanes)
  same-gives (Lane (Given o from id place) ∷ ds) all =
      let within = All-head (GivesIn outs lanes) (Lane (Given o from id place)) ds all in
      let rest = same-gives ds (All-tail (GivesIn outs lanes) (Lane (Given o from id place)) ds all)
      in
      let d : BoardStep = Lane (Given o from id place) in
      one-more (λ a. length (given_to a (d ∷ ds))) (λ a. length (given_to a ds)) outs o within.0
      (ap (λ z. length (cons_option z (given_to o ds)))
      (if_same o o (Some id) None refl))
      (λ p ne.
      ap (λ z. length (cons_option z (given_to p ds)))
      (if_other o p (Some id) None (λ e. ne (sym e))))
      ∙ (ap suc rest
      ∙ sym (one-more (λ l. length (delivered_by l (d ∷ ds))) (λ l. length (delivered_by l ds))
      lanes
      from within.1
      (ap (λ z. length (cons_option z (delivered_by from ds)))
      (if_same from from (Some (delivery o id place)) None refl))
      (λ p ne.
      ap (λ z. length (cons_option z (delivered_by p ds)))
      (if_other from p (Some (delivery o id place)) None (λ e. ne (sym e))))))
  same-gives (Lane (Held l w x) ∷ ds) all =
      same-gives ds (All-tail (GivesIn outs lanes) (Lane (Held l w x)) ds all)
  same-gives (Lane (Missed l w) ∷ ds) all =
      same-gives ds (All-tail (GivesIn outs lanes) (Lane (Missed l w)) ds all)
  same-gives (Lane (Freed l c) ∷ ds) all =
      same-gives ds (All-tail (GivesIn outs lanes) (Lane (Freed l c)) ds all)
  same-gives (Lane (OutHeld o w x) ∷ ds) all =
      same-gives ds (All-tail (GivesIn outs lanes) (Lane (OutHeld o w x)) ds all)
  same-gives (Lane (OutMissed o w) ∷ ds) all =
      same-gives ds (All-tail (GivesIn outs lanes) (Lane (OutMissed o w)) ds all)
  same-gives (Lane (OutFreed o) ∷ ds) all =
      same-gives ds (All-tail (GivesIn outs lanes) (Lane (OutFreed o)) ds all)
  same-gives (Lane (Retired l w) ∷ ds) all =
      same-gives ds (All-tail (GivesIn outs lanes) (Lane (Retired l w)) ds all)
  same-gives (Gate g ∷ ds) all = same-gives ds (All-tail (GivesIn outs lanes) (Gate g) ds all)
  same-gives (Weighed l w ∷ ds) all =
      same-gives ds (All-tail (GivesIn outs lanes) (Weighed l w) ds all)
  same-gives (Counted l w ∷ ds) all =
      same-gives ds (All-tail (GivesIn outs lanes) (Counted l w) ds all)
  same-gives (OutCounted o w ∷ ds) all =
      same-gives ds (All-tail (GivesIn outs lanes) (OutCounted o w) ds all)
  same-gives (LaneOut k ∷ ds) all = same-gives ds (All-tail (GivesIn outs lanes) (LaneOut k) ds all)
  same-gives (LaneIn k ∷ ds) all = same-gives ds (All-tail (GivesIn outs lanes) (LaneIn k) ds all)

-- what holds of each step by its number holds of all
pub all-by-number : {A : Type 0} (P : A → Type 0) (xs : List A)
    → ((k : ℕ) (x : A) → nth_step xs k ≡ Some x → P x) → All P xs
all-by-number P [] each = All-nil P
all-by-number P (x ∷ xs) each =
    All-cons P x xs (each (length xs) x (nth-last x xs))
    (all-by-number P xs
    (λ k y at. each k y (nth-old (x ∷ []) xs k (nth-inside xs k y at) ∙ at)))

module _ (about : BoardSizes) (own : ℕ → List BoardStep) (lists : BoardLists)
    (fit : FitSizes about)
    (gives : (q k o from id place : ℕ) → Has (own q) k (Lane (Given o from id place))
    → (o < about.outs) × (from < about.lanes))
    (places : DeliveriesHavePlaces about own lists) (served : LanesAreServedByOne about own lists)
    (outs : OutsAreSums about own lists) where
  gives-in : (q k : ℕ) (d : BoardStep) → Has (own q) k d → GivesIn about.outs about.lanes d
  gives-in q k (Lane (Given o from id place)) does = gives q k o from id place does
  gives-in q k d does = tt

  -- only the lane's own seat delivers from it
  none-by-others : (q l : ℕ) → q ≢ puller about l → length (delivered_by l (own q)) ≡ 0
  none-by-others q l ne = by_list (delivered_by l (own q)) refl
    where
      by_list : (gs : List Delivery) → delivered_by l (own q) ≡ gs → length gs ≡ 0
      by_list [] is = refl
      by_list (g ∷ gs) is =
          let at : nth_step (delivered_by l (own q)) (length gs) ≡ Some g =
          ap (λ z. nth_step z (length gs)) is ∙ nth-last g gs in
          let s = nth-filter (delivered_in l) (own q) (length gs) g at in
          let d = delivered-step l s.1 g s.3 in
          let p = places.stand q s.0 g.to l g.id g.place (s.2 ∙ ap (λ z. Some z) d) in
          absurd (ne (sym p.by_puller))

  seat-of : (l : ℕ) → puller about l < about.seats
  seat-of l =
      let some = fit.some_seat in
      low l (max 1 (about.seats - 1)) (omega arith)
      (omega arith)
    where
      low : (l m : ℕ) → 0 < m → m ≤ about.seats → l % m < about.seats
      low l m some le =
          let small = mod-lt l {m = m} some in omega arith

  by-one : (l : ℕ) → sum_below (λ q. length (delivered_by l (own q))) about.seats
      ≡ length (delivered_by l (own (puller about l)))
  by-one l =
      let e = sum_one (λ q. length (delivered_by l (own q))) (λ q. 0) about.seats (puller about l)
      (seat-of l) (λ q _ ne. none-by-others q l ne) in
      let n = sum_none about.seats in omega arith

  -- the out lanes have as many packets as the lanes delivered
  pub all-delivered : sum_below (λ o. length (list_at lists.outs o)) about.outs
      ≡ sum_below (λ l. (lane_at lists.lanes l).delivered) about.lanes
  all-delivered =
      sum_same (λ o. length (list_at lists.outs o))
      (λ o. sum_below (λ q. length (given_to o (own q))) about.seats) about.outs
      (λ o less. outs o less)
      ∙ (sum-swap (λ o q. length (given_to o (own q))) about.outs about.seats
      ∙ (sum_same (λ q. sum_below (λ o. length (given_to o (own q))) about.outs)
      (λ q. sum_below (λ l. length (delivered_by l (own q))) about.lanes) about.seats
      (λ q less.
      same-gives about.outs about.lanes (own q)
      (all-by-number (GivesIn about.outs about.lanes) (own q) (gives-in q)))
      ∙ (sum-swap (λ q l. length (delivered_by l (own q))) about.seats about.lanes
      ∙ sum_same (λ l. sum_below (λ q. length (delivered_by l (own q))) about.seats)
      (λ l. (lane_at lists.lanes l).delivered) about.lanes
      (λ l less. by-one l ∙ sym (served l less).delivered))))

  module _ (sums : CountsAreSums about own lists) (turn : LanesAreInTurn about own lists) where
    pub replies_suffice : RepliesSuffice about own lists
    replies_suffice retired h inboxes front total a less =
        let below : (k : ℕ) → k < about.outs
        → length (list_at h.sent k) ≤ length (list_at lists.outs k) =
        λ k small. (
        let f = front k in
        let size = length-map (list_at h.sent k) (λ (s : Sent). s.id) in
        let all = length-append (map (λ (s : Sent). s.id) (list_at h.sent k)) f.0 in
        let same = ap length f.1 in
        let out = ap (λ z. length (list_at z k)) inboxes in omega arith) in
        let done : sum_below (λ l. (lane_at lists.lanes l).delivered) about.lanes
        ≡ sum_below (retired_count about own) about.lanes =
        sum_same (λ l. (lane_at lists.lanes l).delivered) (retired_count about own) about.lanes
        (λ l small.
        (let n = (sums l small).accepted in
        let r = (served l small).retired in
        let e = retired l small in
        let t = turn l in
        let t0 = t.retired in
        let t1 = t.delivered in
        let t2 = t.pulled in omega arith)) in
        each-equal (λ k. length (list_at h.sent k)) (λ k. length (list_at lists.outs k)) about.outs
        below (total ∙ (sym done ∙ sym all-delivered)) a less ∙ outs a less
