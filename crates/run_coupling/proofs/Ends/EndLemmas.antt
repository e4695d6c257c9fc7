-- All is done where the tallies are equal.
use Rattle.steer_base.specs.Drops.{bucket_of, lane_drop_cause}
use Rattle.steer_base.specs.Lanes.{LaneLists}
use Rattle.steer_base.specs.declared.put.DropCause.{DropCause}
use Rattle.steer_base.specs.declared.put.Put.{Put}
use Rattle.backlog.specs.Puts.{put_by}
use Rattle.history.specs.Lists.{drop_ids, no_lane}
use Rattle.history.proofs.FindingLemmas.{is_in-here, is_in-past}
use Rattle.board_api.specs.Lists.{IsFrontOf}
use Rattle.board_api.specs.OwnSteps.{put_step}
use Rattle.board_api.specs.Laws.Puts.{PutsStand}
use Rattle.steer_model.specs.Good.Deliveries.{IsDone}
use Rattle.run_coupling.proofs.Names.{◌≡◌, ◌⊎◌, inl, inr, ℕ, ◌-◌, ◌<◌, true, List, [], ◌∷◌, ◌++◌}
use Rattle.run_coupling.proofs.Names.{Option, Some, None, length, map, All, sym, refl, ap, ◌∙◌}
use Rattle.run_coupling.proofs.Names.{arith, slice_get, cons_option, filter_map, All-from_get_or}
use Rattle.run_coupling.proofs.Names.{dite, ℕ_discrete, if_same, if_other, LaneDrop, is_in, lane_at}
use Rattle.run_coupling.proofs.Names.{Delivery, delivery, nth_step, puller, BoardSizes, BoardStep}
use Rattle.run_coupling.proofs.Names.{Lane, Given, none-some, some-is, nth-inside, nth-old}
use Rattle.run_coupling.proofs.Names.{nth-some, DeliveriesHavePlaces, LanesAreInTurn}
use Rattle.run_coupling.proofs.Names.{LanesAreServedByOne, ListsAreCounted, Has, delivered_by}
use Rattle.run_coupling.proofs.Names.{delivered_in, CountsAreSums, BoardLists, retired_count}
use Rattle.run_coupling.proofs.Lists.SumLemmas.{each-equal}
use Rattle.run_coupling.specs.Laws.Ends.{TotalsSuffice, WasDelivered}
use Rattle.run_coupling.specs.Coupling.Ends.{accepted_count, AllRetired}

-- ---- the n-th of some steps is a step

pub nth-filter : {A B : Type 0} (f : A → Option B) (xs : List A) (n : ℕ) (y : B)
    → nth_step (filter_map f xs) n ≡ Some y
    → (k : ℕ) × (x : A) × (nth_step xs k ≡ Some x) × (f x ≡ Some y)
nth-filter f [] n y at = none-some y at
nth-filter {A} {B} f (x ∷ xs) n y at = by_head (f x) refl at (nth-filter f xs n y)
  where
    by_head : (o : Option B) → f x ≡ o → nth_step (cons_option o (filter_map f xs)) n ≡ Some y
        → (nth_step (filter_map f xs) n ≡ Some y
        → (k : ℕ) × (z : A) × (nth_step xs k ≡ Some z) × (f z ≡ Some y))
        → (k : ℕ) × (z : A) × (nth_step (x ∷ xs) k ≡ Some z) × (f z ≡ Some y)
    by_head None is here older =
        let b = older here in
        (b.0, b.1, nth-old (x ∷ []) xs b.0 (nth-inside xs b.0 b.1 b.2) ∙ b.2, b.3)
    by_head (Some z) is here older =
        let rest : List B = filter_map f xs in
        dite (ℕ_discrete (length rest) n)
        (λ e. (
          length xs,
          x,
          Rattle.hop_rule.proofs.Moments.nth-last x xs,
          is ∙ (sym (if_same (length rest) n (Some z) (nth_step rest n) e) ∙ here),
        ))
        (λ ne.
        let b = older (sym (if_other (length rest) n (Some z) (nth_step rest n) ne) ∙ here) in
        (b.0, b.1, nth-old (x ∷ []) xs b.0 (nth-inside xs b.0 b.1 b.2) ∙ b.2, b.3))

-- a delivery from a lane, by its step
pub delivered-step : (l : ℕ) (d : BoardStep) (g : Delivery) → delivered_in l d ≡ Some g
    → d ≡ Lane (Given g.to l g.id g.place)
delivered-step l (Lane (Given o from id place)) g is =
    dite (ℕ_discrete from l)
    (λ e.
    let same = some-is (delivery o id place) g
    (sym (if_same from l (Some (delivery o id place)) None e) ∙ is) in
    (λ i. Lane (Given (same i).to (e i) (same i).id (same i).place)))
    (λ ne. none-some g (sym (if_other from l (Some (delivery o id place)) None ne) ∙ is))
delivered-step l d g is = none-some g is

-- ---- the end of a list's front

at-end : {A : Type 0} (xs : List A) (x : A) (more : List A)
    → slice_get ((xs ++ x ∷ []) ++ more) (length xs) ≡ Some x
at-end [] x more = refl
at-end (y ∷ xs) x more = at-end xs x more

is_in-mid : (xs : List LaneDrop) (d : LaneDrop) (more : List LaneDrop)
    → is_in d.id (map (λ (e : LaneDrop). e.id) ((xs ++ d ∷ []) ++ more)) ≡ true
is_in-mid [] d more = is_in-here d.id d.id (map (λ (e : LaneDrop). e.id) more) refl
is_in-mid (e ∷ xs) d more =
    let rest : List ℕ = map (λ (e : LaneDrop). e.id) ((xs ++ d ∷ []) ++ more) in
    dite (ℕ_discrete d.id e.id)
    (λ same. is_in-here d.id e.id rest same)
    (λ ne. is_in-past d.id e.id rest ne ∙ is_in-mid xs d more)

module _ (about : BoardSizes) (own : ℕ → List BoardStep) (lists : BoardLists)
    (counted : ListsAreCounted about own lists) (sums : CountsAreSums about own lists)
    (served : LanesAreServedByOne about own lists) (turn : LanesAreInTurn about own lists)
    (stand : PutsStand about own lists) (places : DeliveriesHavePlaces about own lists)
    (all : AllRetired about own) where
  lane_done : (l : ℕ) → l < about.lanes → IsDone (lane_at lists.lanes l)
  lane_done l within =
      let a = (sums l within).accepted in
      let b = (served l within).retired in
      let c = all l within in
      let t = turn l in
      let t0 = t.retired in
      let t1 = t.delivered in
      let t2 = t.pulled in
      record { pulled = omega arith; delivered = omega arith; retired = omega arith }

  pub lanes_done : All IsDone lists.lanes
  lanes_done =
      All-from_get_or IsDone lists.lanes no_lane (λ l less.
      (let n = counted.lanes in lane_done l (omega arith)))

  -- the packet at a place of a lane was delivered
  accepted_ends : (l n id : ℕ) → l < about.lanes
      → slice_get (lane_at lists.lanes l).accepted n ≡ Some id → WasDelivered about own lists l id
  accepted_ends l n id within at =
      let s = served l within in
      let done = (lane_done l within).delivered in
      let inside = Rattle.hop_rule.proofs.Lists.get-inside (lane_at lists.lanes l).accepted n id at
      in
      let many = s.delivered in
      let g = nth-some (delivered_by l (own (puller about l))) n (omega arith) in
      let same : g.0.id ≡ id = some-is g.0.id id (sym (s.nth_delivery n g.0 g.1) ∙ at) in
      let step = nth-filter (delivered_in l) (own (puller about l)) n g.0 g.1 in
      let is = delivered-step l step.1 g.0 step.3 in
      let does : Has (own (puller about l)) step.0 (Lane (Given g.0.to l id g.0.place)) =
      step.2 ∙ (ap (λ d. Some d) is ∙ (λ i. Some (Lane (Given g.0.to l (same i) g.0.place)))) in
      let p = places.stand (puller about l) step.0 g.0.to l id g.0.place does in
      record {
        to = g.0.to;
        index = g.0.place - 1;
        step = step.0;
        place = g.0.place;
        does = does;
        stands = p.stands;
      }

  pub puts_end : (q k l id : ℕ) (hash : Option ℕ) (answer : Put)
      → Has (own q) k (put_step l id hash answer)
      → WasDelivered about own lists l id ⊎ (is_in id (drop_ids (lane_at lists.lanes l)) ≡ true)
  puts_end q k l id hash answer does =
      let s = stand q k l id hash answer does in
      by_cause (lane_drop_cause s.found hash) s.found s.lane.within s.stands
    where
      by_cause : (cause : Option DropCause) (found : LaneLists) → l < about.lanes
          → IsFrontOf (put_by cause found id (bucket_of hash)) (lane_at lists.lanes l)
          → WasDelivered about own lists l id ⊎ (is_in id (drop_ids (lane_at lists.lanes l)) ≡ true)
      by_cause None found within front =
          inl (accepted_ends l (length found.accepted) id within
          (ap (λ xs. slice_get xs (length found.accepted)) front.accepted.1
          ∙ at-end found.accepted id front.accepted.0))
      by_cause (Some cause) found within front =
          inr (ap (λ ds. is_in id (map (λ (d : LaneDrop). d.id) ds)) front.drops.1
          ∙ is_in-mid found.drops _ front.drops.0)

-- ---- totals

pub totals_suffice : (about : BoardSizes) (own : ℕ → List BoardStep) (lists : BoardLists)
    → CountsAreSums about own lists → LanesAreServedByOne about own lists
    → LanesAreInTurn about own lists → TotalsSuffice about own lists
totals_suffice about own lists sums served turn totals l within =
    sym (each-equal (retired_count about own) (accepted_count about own) about.lanes
    (λ k less.
    (let a = (sums k less).accepted in
    let b = (served k less).retired in
    let t = turn k in
    let t0 = t.retired in
    let t1 = t.delivered in
    let t2 = t.pulled in omega arith)) (sym totals) l within)
