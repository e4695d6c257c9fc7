-- Where the packets of a board stand at its closing: each accepted or dropped one at one place, by
-- a
-- choice of its lane; each delivered one at one place of an out lane, and among the packets that
-- its
-- lane accepted and delivered.
use Rattle.std.proofs.lemmas.Option.{slice_get-map}
use Rattle.history.specs.Finding.{is_among}
use Rattle.history.specs.Lines.{choice_in}
use Rattle.history.specs.Lists.{accepted_lists, drop_ids, dropped_lists}
use Rattle.history.specs.Regular.{HasChoice}
use Rattle.history.proofs.BoundLemmas.{list-accepted, list-dropped}
use Rattle.hop_delivery.specs.Closings.PutPlaces.{HasTurn, PacketsStandOnce}
use Rattle.hop_delivery.proofs.Orders.AccountedLemmas.{nth-all}
use Rattle.run_coupling.specs.Coupling.Deliveries.{AllDeliverTo}
use Rattle.run_coupling.proofs.Names.{◌≡◌, inl, inr, ℕ, suc, ◌<◌, true, List, [], ◌∷◌, ◌++◌, Option}
use Rattle.run_coupling.proofs.Names.{Some, None, length, sym, refl, ap, ◌∙◌, subst, arith}
use Rattle.run_coupling.proofs.Names.{slice_get, cons_option, filter_map, option_map, cases_eq}
use Rattle.run_coupling.proofs.Names.{if_same, if_other, Chosen, is_in, lane_at, list_at, Delivery}
use Rattle.run_coupling.proofs.Names.{delivery, nth_step, puller, BoardSizes, BoardStep, Lane}
use Rattle.run_coupling.proofs.Names.{Given, some-is, nth-inside, nth-last, nth-old, Has}
use Rattle.run_coupling.proofs.Names.{delivered_by, delivered_in, BoardLists, accepted_left}
use Rattle.run_coupling.proofs.Names.{Execution, AreTurnsOf, KeepsTurns}
use Rattle.run_coupling.proofs.Lists.PlaceLemmas.{StandOnce, among_at, at_in, choice_at, drop_at}
use Rattle.run_coupling.proofs.Lists.PlaceLemmas.{in_at, joined_stand}
use Rattle.run_coupling.proofs.Runs.FactLemmas.{BoardFacts}
use Rattle.run_coupling.proofs.Runs.TurnListLemmas.{turn-chosen}

-- a step that a function keeps is one of those kept
pub filter-nth : {A B : Type 0} (f : A → Option B) (xs : List A) (k : ℕ) (x : A) (y : B)
    → nth_step xs k ≡ Some x → f x ≡ Some y → (n : ℕ) × (nth_step (filter_map f xs) n ≡ Some y)
filter-nth f [] k x y at is = Rattle.hop_rule.proofs.Lists.none-some x at
filter-nth {A} {B} f (z ∷ zs) k x y at is =
    elim (cases_eq (length zs) k) [
      | inl e ↦
          (let same : z ≡ x =
          some-is z x (sym (if_same (length zs) k (Some z) (nth_step zs k) e) ∙ at) in
          here (f z) (filter_map f zs) (ap f same ∙ is))
      | inr ne ↦
          (let r = filter-nth f zs k x y
          (sym (if_other (length zs) k (Some z) (nth_step zs k) ne) ∙ at) is in
          later (f z) (filter_map f zs) r.0 r.1)
    ]
  where
    here : (o : Option B) (ys : List B) → o ≡ Some y
        → (n : ℕ) × (nth_step (cons_option o ys) n ≡ Some y)
    here None ys e = Rattle.hop_rule.proofs.Lists.none-some y e
    here (Some w) ys e = (length ys, nth-last w ys ∙ e)

    later : (o : Option B) (ys : List B) (n : ℕ) → nth_step ys n ≡ Some y
        → (n : ℕ) × (nth_step (cons_option o ys) n ≡ Some y)
    later None ys n at = (n, at)
    later (Some w) ys n at = (n, nth-old (w ∷ []) ys n (nth-inside ys n y at) ∙ at)

-- where each lane's seat delivers to the packet's own out lane, each delivery does
pub delivered-to : (about : BoardSizes) (own : ℕ → List BoardStep) (lists : BoardLists)
    → BoardFacts about own lists → (out : ℕ → ℕ) → AllDeliverTo about out own
    → (q k o from id place : ℕ) → Has (own q) k (Lane (Given o from id place)) → o ≡ out id
delivered-to about own lists facts out right q k o from id place does =
    let s = facts.places.stand q k o from id place does in
    let w = facts.gives.within q k o from id place does in
    let here : Has (own (puller about from)) k (Lane (Given o from id place)) =
    ap (λ z. nth_step (own z) k) s.by_puller ∙ does in
    let n = filter-nth (delivered_in from) (own (puller about from)) k
    (Lane (Given o from id place)) (delivery o id place) here
    (if_same from from (Some (delivery o id place)) None refl) in
    nth-all (λ (g : Delivery). g.to ≡ out g.id) (delivered_by from (own (puller about from))) n.0
    (delivery o id place) (right from w.1) n.1

module _ (about : BoardSizes) (own : ℕ → List BoardStep) (lists : BoardLists)
    (facts : BoardFacts about own lists) (t : Execution) (keeps : KeepsTurns own t)
    (turns : AreTurnsOf own t)
    (once : (p q j k x : ℕ) → slice_get (t.arrivals p) j ≡ Some x
    → slice_get (t.arrivals q) k ≡ Some x → (p ≡ q) × (j ≡ k))
    (choices : List (List Chosen)) (journals : (p : ℕ) → list_at choices p ≡ t.choices p) where
  abbrev stands : PacketsStandOnce about own lists t
  stands = facts.packets t turns

  -- ---- choices

  chosen-id : (p j : ℕ) (d : Chosen) → slice_get (t.choices p) j ≡ Some d
      → slice_get (t.arrivals p) j ≡ Some d.id
  chosen-id p j d at =
      ap (λ xs. slice_get xs j) (sym (keeps.all_chosen p))
      ∙ (slice_get-map (λ (c : Chosen). c.id) (t.choices p) j
      ∙ ap (option_map (λ (c : Chosen). c.id)) at)

  pub has-choice : (l x : ℕ) → HasTurn t l x → HasChoice choices x l
  has-choice l x h =
      let at = turn-chosen own t keeps h.producer h.index h.turn h.is in
      let only : (j : ℕ) (d : Chosen) → slice_get (t.choices h.producer) j ≡ Some d
      → d.id ≡ h.turn.chosen.id → j ≡ h.index =
      λ j d there same. (once h.producer h.producer j h.index h.turn.chosen.id
      (chosen-id h.producer j d there ∙ ap (λ n. Some n) same)
      (chosen-id h.producer h.index h.turn.chosen at)).1 in (
        h.producer,
        h.turn.chosen.choice,
        (λ i. choice_in (sym h.same_id i) (journals h.producer i))
            ∙ choice_at (t.choices h.producer) h.index h.turn.chosen at only,
        h.same_lane,
      )

  pub accepted-choice : (c x : ℕ) → is_in x (lane_at lists.lanes c).accepted ≡ true
      → HasChoice choices x c
  accepted-choice c x is =
      let a = at_in x (lane_at lists.lanes c).accepted is in
      has-choice c x (stands.accepted c a.0 x a.1)

  pub dropped-choice : (c x : ℕ) → is_in x (drop_ids (lane_at lists.lanes c)) ≡ true
      → HasChoice choices x c
  dropped-choice c x is =
      let a = at_in x (drop_ids (lane_at lists.lanes c)) is in
      let d = drop_at (lane_at lists.lanes c).drops a.0 x a.1 in
      subst (λ n. HasChoice choices n c) d.2
      (has-choice c d.0.id (stands.dropped c a.0 d.0 d.1))

  -- the packet of an accepted place arrived
  pub accepted-arrived : (c n x : ℕ) → slice_get (accepted_left lists c) n ≡ Some x
      → (p : ℕ) × (j : ℕ) × (slice_get (t.arrivals p) j ≡ Some x)
  accepted-arrived c n x at =
      let h = stands.accepted c n x at in (
        h.producer,
        h.index,
        turns.arrived h.producer h.index h.turn h.is ∙ ap (λ n. Some n) h.same_id,
      )

  -- ---- each at one place

  pub accepted-stand : StandOnce (accepted_lists lists.lanes)
  accepted-stand p q i j x at there =
      stands.accepted_once p q i j x
      (ap (λ xs. slice_get xs i) (sym (list-accepted lists.lanes p)) ∙ at)
      (ap (λ xs. slice_get xs j) (sym (list-accepted lists.lanes q)) ∙ there)

  dropped-stand : StandOnce (dropped_lists lists.lanes)
  dropped-stand p q i j x at there =
      let d = drop_at (lane_at lists.lanes p).drops i x
      (ap (λ xs. slice_get xs i) (sym (list-dropped lists.lanes p)) ∙ at) in
      let e = drop_at (lane_at lists.lanes q).drops j x
      (ap (λ xs. slice_get xs j) (sym (list-dropped lists.lanes q)) ∙ there) in
      stands.dropped_once p q i j d.0 e.0 d.1 e.1 (d.2 ∙ sym e.2)

  pub all-stand : StandOnce (accepted_lists lists.lanes ++ dropped_lists lists.lanes)
  all-stand =
      joined_stand (accepted_lists lists.lanes) (dropped_lists lists.lanes) accepted-stand
      dropped-stand
      (λ p q i j x at there.
      (let e = drop_at (lane_at lists.lanes q).drops j x
      (ap (λ xs. slice_get xs j) (sym (list-dropped lists.lanes q)) ∙ there) in
      stands.apart p q i j e.0
      (ap (λ xs. slice_get xs i) (sym (list-accepted lists.lanes p))
      ∙ (at ∙ ap (λ n. Some n) (sym e.2))) e.1))

  -- ---- deliveries

  -- a packet of an out lane was delivered from its place in a lane
  pub record CameFrom (o j x : ℕ) : Type 0 where
    pub lane : ℕ
    pub index : ℕ
    pub step : ℕ
    pub within : lane < about.lanes
    pub does : Has (own (puller about lane)) step (Lane (Given o lane x (suc j)))
    pub is : nth_step (delivered_by lane (own (puller about lane))) index
        ≡ Some (delivery o x (suc j))
    pub stands_at : slice_get (accepted_left lists lane) index ≡ Some x
    pub early : index < (lane_at lists.lanes lane).delivered

  pub came-from : (o j x : ℕ) → slice_get (list_at lists.outs o) j ≡ Some x → CameFrom o j x
  came-from o j x at =
      let g = facts.places.given o j x at in
      let w = facts.gives.within g.seat g.step o g.from x (suc j) g.does in
      let s = facts.places.stand g.seat g.step o g.from x (suc j) g.does in
      let does : Has (own (puller about g.from)) g.step (Lane (Given o g.from x (suc j))) =
      ap (λ q. nth_step (own q) g.step) s.by_puller ∙ g.does in
      let n = filter-nth (delivered_in g.from) (own (puller about g.from)) g.step
      (Lane (Given o g.from x (suc j))) (delivery o x (suc j)) does
      (if_same g.from g.from (Some (delivery o x (suc j))) None refl) in
      let v = facts.served g.from w.1 in
      let inside = nth-inside (delivered_by g.from (own (puller about g.from))) n.0
      (delivery o x (suc j)) n.1 in
      let many = v.delivered in
      record {
        lane = g.from;
        index = n.0;
        step = g.step;
        within = w.1;
        does = does;
        is = n.1;
        stands_at = v.nth_delivery n.0 (delivery o x (suc j)) n.1;
        early = omega arith;
      }

  pub out-accepted : (o x : ℕ) → is_in x (list_at lists.outs o) ≡ true
      → (c : ℕ) × (is_in x (lane_at lists.lanes c).accepted ≡ true)
  out-accepted o x is =
      let a = at_in x (list_at lists.outs o) is in
      let f = came-from o a.0 x a.1 in
      (f.lane, in_at x f.index (accepted_left lists f.lane) f.stands_at)

  pub out-among : (o x : ℕ) → is_in x (list_at lists.outs o) ≡ true → (c : ℕ)
      × (is_among (lane_at lists.lanes c).delivered x (lane_at lists.lanes c).accepted ≡ true)
  out-among o x is =
      let a = at_in x (list_at lists.outs o) is in
      let f = came-from o a.0 x a.1 in (
        f.lane,
        among_at x f.index (lane_at lists.lanes f.lane).delivered
            (accepted_left lists f.lane) f.stands_at f.early,
      )

  pub outs-stand : StandOnce lists.outs
  outs-stand o u i j x at there =
      let f = came-from o i x at in
      let g = came-from u j x there in
      let same = stands.accepted_once f.lane g.lane f.index g.index x f.stands_at g.stands_at in
      let one : delivery o x (suc i) ≡ delivery u x (suc j) =
      some-is (delivery o x (suc i)) (delivery u x (suc j))
      (sym f.is
      ∙ ((λ k. nth_step (delivered_by (same.0 k) (own (puller about (same.0 k)))) (same.1 k))
      ∙ g.is)) in
      let next : suc i ≡ suc j = ap (λ (d : Delivery). d.place) one in
      (ap (λ (d : Delivery). d.to) one, omega arith)
