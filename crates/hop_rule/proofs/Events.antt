-- Each step of a lawful order is one event of the bare hop, or leaves it.
use Rattle.std.proofs.Common.{map, set}
use Rattle.std.specs.Prelude.{nat_lt, slice_index, replicate}
use Rattle.std.specs.List.{range_with_len}
use Rattle.steer_base.specs.Sets.{has}
use Rattle.steer_base.specs.declared.put.LaneDrop.{LaneDrop}
use Rattle.backlog.specs.Puts.{new_lane}
use Rattle.hop_model.specs.Hop.{Bare, accepted_at, pulled_at}
use Rattle.hop_model.specs.Hop.{delivered_at, retired_at, next_out, lane_of, landed}
use Rattle.hop_model.specs.BareEvents.{MayBe, bare_after}
use Rattle.hop_rule.specs.Lanes as lanes
use Rattle.hop_rule.specs.Gates as gates
use Rattle.hop_rule.specs.Boards.{visit_of}
use Rattle.hop_rule.specs.Events as events
use Rattle.hop_rule.specs.Events.{is_in, fixed, inside_count, bare, step_event, BeginsFresh}
use Rattle.hop_rule.specs.Events.{EachStepIsAnEvent}
use Rattle.hop_rule.proofs.Names.{◌≡◌, ◌≢◌, ℕ, zero, suc, ◌+◌, ◌-◌, ◌<◌, ◌≤◌, false, List, [], ◌∷◌}
use Rattle.hop_rule.proofs.Names.{◌++◌, Option, Some, None, length, get_or, sym, refl, ap, ◌∙◌}
use Rattle.hop_rule.proofs.Names.{subst, arith, slice_get, dite, ℕ_discrete, LaneLists, bucket_of}
use Rattle.hop_rule.proofs.Names.{lane_drop_cause, DropCause, put_by, after_put, StepBy, step_by}
use Rattle.hop_rule.proofs.Names.{steps_of, steps_of_own, steps_of_other, if_same, if_other}
use Rattle.hop_rule.proofs.Names.{BoardSizes, BoardStep, Lane, Gate, Weighed, Counted, LaneOut}
use Rattle.hop_rule.proofs.Names.{LaneIn, OutCounted, Change, Nothing, Offered, Pulled, LaneStep}
use Rattle.hop_rule.proofs.Names.{Held, Missed, Freed, OutHeld, OutMissed, OutFreed, Given, Retired}
use Rattle.hop_rule.proofs.Names.{GateStep, Entered, Turned, Left, Shut, NotShut, Opened, Set, Read}
use Rattle.hop_rule.proofs.Names.{Delivery, delivery, delivered_from, puller, lanes_of, gates_of}
use Rattle.hop_rule.proofs.Names.{IsLawful, sum_below}
use Rattle.hop_rule.proofs.Lists.{get-inside}
use Rattle.hop_rule.proofs.Lanes.{holds, counted, out_of_hand}
use Rattle.hop_rule.proofs.Deliveries.{facts, gone, waiting, Waits}
use Rattle.hop_rule.proofs.Boards.{parts}
use Rattle.hop_rule.proofs.Cases.{pick, lane_case}
use Rattle.hop_rule.proofs.Gates.{closes, sums, sum_one, sum_has}
use Rattle.hop_rule.proofs.Lists.{get-inside}

-- ---- lists of the values of a function

tab-same : {X : Type 0} (f g : ℕ → X) (a n : ℕ) → ((j : ℕ) → a ≤ j → g j ≡ f j)
    → map g (range_with_len a n) ≡ map f (range_with_len a n)
tab-same f g a zero same = refl
tab-same f g a (suc n) same = (λ i. same a (omega arith) i ∷ tab-same f g (a + 1) n
    (λ j le. same j (omega arith)) i)

tab-set : {X : Type 0} (f g : ℕ → X) (a n k : ℕ) → k < n → ((j : ℕ) → j ≢ a + k → g j ≡ f j)
    → map g (range_with_len a n) ≡ set (map f (range_with_len a n)) k (g (a + k))
tab-set f g a zero k l same = absurd (omega arith)
tab-set f g a (suc n) zero l same = let e : a ≡ a + 0 = omega arith in
    (λ i. g (e i) ∷ tab-same f g (a + 1) n (λ j le. same j (λ h. absurd (omega arith))) i)
tab-set f g a (suc n) (suc k) l same = let e : a + 1 + k ≡ a + suc k = omega arith in
    (λ i. same a (λ h. absurd (omega arith)) i ∷
    (tab-set f g (a + 1) n k (omega arith) (λ j ne. same j (λ h. ne (omega arith)))
    ∙ ap (λ z. set (map f (range_with_len (a + 1) n)) k (g z)) e) i)

tab-get : {X : Type 0} (f : ℕ → X) (d : X) (a n k : ℕ) → k < n → get_or (map f (range_with_len a n))
    k d ≡ f (a + k)
tab-get f d a zero k l = absurd (omega arith)
tab-get f d a (suc n) zero l = let e : a ≡ a + 0 = omega arith in ap f e
tab-get f d a (suc n) (suc k) l = let e : a + 1 + k ≡ a + suc k = omega arith in tab-get f d
    (a + 1) n k (omega arith) ∙ ap f e

-- a list where one value was changed
tab-at : {X : Type 0} (f g : ℕ → X) (n k : ℕ) (v : X) → k < n → g k ≡ v
    → ((j : ℕ) → k ≢ j → g j ≡ f j) → map g (range_with_len 0 n) ≡ set (map f (range_with_len 0 n))
    k v
tab-at f g n k v l is same = let e : 0 + k ≡ k = omega arith in tab-set f g 0 n k l
    (λ j ne. same j (λ h. ne (omega arith))) ∙ ap (set (map f (range_with_len 0 n)) k) (ap g e ∙ is)

tab-is : {X : Type 0} (f : ℕ → X) (d : X) (n k : ℕ) → k < n → get_or (map f (range_with_len 0 n)) k
    d ≡ f k
tab-is f d n k l = let e : 0 + k ≡ k = omega arith in tab-get f d 0 n k l ∙ ap f e

tab-length : {X : Type 0} (f : ℕ → X) (a n : ℕ) → length (map f (range_with_len a n)) ≡ n
tab-length f a zero = refl
tab-length f a (suc n) = ap suc (tab-length f (a + 1) n)

tab-all : {X : Type 0} (x : X) (a n : ℕ) → map (λ _. x) (range_with_len a n) ≡ replicate n x
tab-all x a zero = refl
tab-all x a (suc n) = ap (λ xs. x ∷ xs) (tab-all x (a + 1) n)

module _ (about : BoardSizes) where
  abbrev LaneOrder : Type 0
  LaneOrder = List (StepBy LaneStep)

  abbrev L : LaneOrder → ℕ → LaneLists
  L ls l = lanes.lane about l ls

  -- what a lane keeps for good
  abbrev Shape : LaneLists → LaneLists → Type 0
  Shape x y = (x.limit ≡ y.limit) × (x.room ≡ y.room) × (x.start ≡ y.start)
      × (x.limited ≡ y.limited)

  put_shape : (x : LaneLists) (id : ℕ) (bucket : Option ℕ) (cause : Option DropCause)
      → Shape (put_by cause x id bucket) x
  put_shape x id bucket None = (refl, refl, refl, refl)
  put_shape x id bucket (Some cause) = (refl, refl, refl, refl)

  changed_shape : (c : Change) (x : LaneLists) → Shape (lanes.lane_changed c x) x
  changed_shape Nothing x = (refl, refl, refl, refl)
  changed_shape (Offered id hash answer) x = put_shape x id (bucket_of hash)
      (lane_drop_cause x hash)
  changed_shape (Pulled id) x = (refl, refl, refl, refl)

  step_shape : (l : ℕ) (d : LaneStep) (x : LaneLists) → Shape (lanes.lane_after_step l d x) x
  step_shape l d x = lane_case (λ y. Shape y x) l d x (λ c _. changed_shape c x)
      (refl, refl, refl, refl)

  shape : (ls : LaneOrder) (l : ℕ) → Shape (L ls l)
      (new_lane about.limit about.room about.start (has about.limited l))
  shape [] l = (refl, refl, refl, refl)
  shape (e ∷ ls) l = let a = step_shape l e.step (L ls l) in let b = shape ls l in
      (a.0 ∙ b.0, a.1 ∙ b.1, a.2 ∙ b.2, a.3 ∙ b.3)

  -- the lane of the bare hop is the lane of the order
  lane_is : (es : List (StepBy BoardStep)) (l : ℕ) → l < about.lanes → lane_of (fixed about)
      (bare about es) l ≡ L (lanes_of es) l
  lane_is es l less = let ls = lanes_of es in let s = shape ls l in
      (λ i. record {
        accepted = tab-is (λ l. (L ls l).accepted) [] about.lanes l less i;
        offers = tab-is (λ l. (L ls l).offers) [] about.lanes l less i;
        drops = tab-is (λ l. (L ls l).drops) [] about.lanes l less i;
        pulled = tab-is (λ l. (L ls l).pulled) 0 about.lanes l less i;
        limit = (sym s.0) i;
        room = (sym s.1) i;
        start = (sym s.2) i;
        limited = (sym s.3) i;
      })

  abbrev Bares : List (StepBy BoardStep) → Bare
  Bares es = bare about es

  put_bare : (p l id : ℕ) (hash : Option ℕ) (answer : Rattle.steer_base.specs.declared.put.Put.Put)
      (es : List (StepBy BoardStep)) → l < about.lanes
      → (cause : Option DropCause) → lane_drop_cause (L (lanes_of es) l) hash ≡ cause
      → Bares (step_by p (Lane (Freed l (Offered id hash answer))) ∷ es) ≡ landed cause
      (Bares es) l id (bucket_of hash)
  put_bare p l id hash answer es less None is =
      let ls : LaneOrder = lanes_of es in let ls' : LaneOrder = step_by p
      (Freed l (Offered id hash answer)) ∷ ls in
      let here : L ls' l ≡ put_by None (L ls l) id (bucket_of hash) = if_same l l
      (after_put (L ls l) id hash) (L ls l) refl
      ∙ ap (λ c. put_by c (L ls l) id (bucket_of hash)) is in
      let there : (j : ℕ) → l ≢ j → L ls' j ≡ L ls j = λ j ne. if_other l j
      (after_put (L ls j) id hash) (L ls j) ne in
      (λ i. record (Bares es) {
        accepted = (tab-at (λ l. (L ls l).accepted) (λ l. (L ls' l).accepted) about.lanes l
            ((L ls l).accepted ++ id ∷ []) less (ap (λ (x : LaneLists). x.accepted) here)
            (λ j ne. ap (λ (x : LaneLists). x.accepted) (there j ne))
            ∙ ap (λ xs. set (Bares es).accepted l (xs ++ id ∷ []))
            (sym (tab-is (λ l. (L ls l).accepted) [] about.lanes l less))) i;
        offers = (tab-at (λ l. (L ls l).offers) (λ l. (L ls' l).offers) about.lanes l
            ((L ls l).offers ++ bucket_of hash ∷ []) less (ap (λ (x : LaneLists). x.offers) here)
            (λ j ne. ap (λ (x : LaneLists). x.offers) (there j ne))
            ∙ ap (λ xs. set (Bares es).offers l (xs ++ bucket_of hash ∷ []))
            (sym (tab-is (λ l. (L ls l).offers) [] about.lanes l less))) i;
        drops = tab-same (λ l. (L ls l).drops) (λ l. (L ls' l).drops) 0 about.lanes
            (λ j le. dite (ℕ_discrete l j) (λ e. subst (λ z. (L ls' z).drops ≡ (L ls z).drops) e
            (ap (λ (x : LaneLists). x.drops) here))
            (λ ne. ap (λ (x : LaneLists). x.drops) (there j ne))) i;
        pulled = tab-same (λ l. (L ls l).pulled) (λ l. (L ls' l).pulled) 0 about.lanes
            (λ j le. dite (ℕ_discrete l j) (λ e. subst (λ z. (L ls' z).pulled ≡ (L ls z).pulled) e
            (ap (λ (x : LaneLists). x.pulled) here))
            (λ ne. ap (λ (x : LaneLists). x.pulled) (there j ne))) i;
      })
  put_bare p l id hash answer es less (Some cause) is =
      let ls : LaneOrder = lanes_of es in let ls' : LaneOrder = step_by p
      (Freed l (Offered id hash answer)) ∷ ls in
      let here : L ls' l ≡ put_by (Some cause) (L ls l) id (bucket_of hash) = if_same l l
      (after_put (L ls l) id hash) (L ls l) refl
      ∙ ap (λ c. put_by c (L ls l) id (bucket_of hash)) is in
      let there : (j : ℕ) → l ≢ j → L ls' j ≡ L ls j = λ j ne. if_other l j
      (after_put (L ls j) id hash) (L ls j) ne in
      let fell : List ℕ → ℕ → LaneDrop = λ xs n.
      record { id = id; accepted = length xs; pulled = n; cause = cause } in
      (λ i. record (Bares es) {
        drops = (tab-at (λ l. (L ls l).drops) (λ l. (L ls' l).drops) about.lanes l
            ((L ls l).drops ++ fell (L ls l).accepted (L ls l).pulled ∷ []) less
            (ap (λ (x : LaneLists). x.drops) here)
            (λ j ne. ap (λ (x : LaneLists). x.drops) (there j ne))
            ∙ (λ k. set (Bares es).drops l
            (sym (tab-is (λ l. (L ls l).drops) [] about.lanes l less) k ++ fell
            (sym (tab-is (λ l. (L ls l).accepted) [] about.lanes l less) k)
            (sym (tab-is (λ l. (L ls l).pulled) 0 about.lanes l less) k) ∷ []))) i;
        offers = (tab-at (λ l. (L ls l).offers) (λ l. (L ls' l).offers) about.lanes l
            ((L ls l).offers ++ bucket_of hash ∷ []) less (ap (λ (x : LaneLists). x.offers) here)
            (λ j ne. ap (λ (x : LaneLists). x.offers) (there j ne))
            ∙ ap (λ xs. set (Bares es).offers l (xs ++ bucket_of hash ∷ []))
            (sym (tab-is (λ l. (L ls l).offers) [] about.lanes l less))) i;
        accepted = tab-same (λ l. (L ls l).accepted) (λ l. (L ls' l).accepted) 0 about.lanes
            (λ j le. dite (ℕ_discrete l j)
            (λ e. subst (λ z. (L ls' z).accepted ≡ (L ls z).accepted) e
            (ap (λ (x : LaneLists). x.accepted) here))
            (λ ne. ap (λ (x : LaneLists). x.accepted) (there j ne))) i;
        pulled = tab-same (λ l. (L ls l).pulled) (λ l. (L ls' l).pulled) 0 about.lanes
            (λ j le. dite (ℕ_discrete l j) (λ e. subst (λ z. (L ls' z).pulled ≡ (L ls z).pulled) e
            (ap (λ (x : LaneLists). x.pulled) here))
            (λ ne. ap (λ (x : LaneLists). x.pulled) (there j ne))) i;
      })

  -- ---- steps at lanes

  lane_event : (p : ℕ) (d : LaneStep) (es : List (StepBy BoardStep)) → lanes.MayCome about p
      (lanes_of es) d → lanes.AreLawful about (lanes_of es) → Bares (step_by p (Lane d) ∷ es) ≡
      bare_after (fixed about) (Bares es) (events.lane_event d)
  lane_event p (Freed l (Offered id hash answer)) es may lawful =
      put_bare p l id hash answer es may.0 (lane_drop_cause (L (lanes_of es) l) hash) refl
      ∙ ap (λ y. landed (lane_drop_cause y hash) (Bares es) l id (bucket_of hash))
      (sym (lane_is es l may.0))
  lane_event p (Freed l Nothing) es may lawful =
      let ls : LaneOrder = lanes_of es in
      let same : (j : ℕ) → L (step_by p (Freed l Nothing) ∷ ls) j ≡ L ls j = λ j. pick l j (L ls j)
      (L ls j) (λ y. y ≡ L ls j) (λ _. refl) (λ _. refl) in
      (λ i. record (Bares es) {
        accepted = tab-same (λ l. (L ls l).accepted)
            (λ k. (L (step_by p (Freed l Nothing) ∷ ls) k).accepted) 0 about.lanes
            (λ j le. ap (λ (x : LaneLists). x.accepted) (same j)) i;
        offers = tab-same (λ l. (L ls l).offers)
            (λ k. (L (step_by p (Freed l Nothing) ∷ ls) k).offers) 0 about.lanes
            (λ j le. ap (λ (x : LaneLists). x.offers) (same j)) i;
        drops = tab-same (λ l. (L ls l).drops) (λ k. (L (step_by p (Freed l Nothing) ∷ ls) k).drops)
            0 about.lanes (λ j le. ap (λ (x : LaneLists). x.drops) (same j)) i;
        pulled = tab-same (λ l. (L ls l).pulled)
            (λ k. (L (step_by p (Freed l Nothing) ∷ ls) k).pulled) 0 about.lanes
            (λ j le. ap (λ (x : LaneLists). x.pulled) (same j)) i;
      })
  lane_event p (Freed l (Pulled id)) es may lawful =
      let ls : LaneOrder = lanes_of es in let ls' : LaneOrder = step_by p (Freed l (Pulled id)) ∷ ls
      in
      (λ i. record (Bares es) {
        accepted = tab-same (λ l. (L ls l).accepted) (λ k. (L ls' k).accepted) 0 about.lanes
            (λ j le. pick l j (lanes.lane_changed (Pulled id) (L ls j)) (L ls j)
            (λ (y : LaneLists). y.accepted ≡ (L ls j).accepted) (λ _. refl) (λ _. refl)) i;
        offers = tab-same (λ l. (L ls l).offers) (λ k. (L ls' k).offers) 0 about.lanes
            (λ j le. pick l j (lanes.lane_changed (Pulled id) (L ls j)) (L ls j)
            (λ (y : LaneLists). y.offers ≡ (L ls j).offers) (λ _. refl) (λ _. refl)) i;
        drops = tab-same (λ l. (L ls l).drops) (λ k. (L ls' k).drops) 0 about.lanes
            (λ j le. pick l j (lanes.lane_changed (Pulled id) (L ls j)) (L ls j)
            (λ (y : LaneLists). y.drops ≡ (L ls j).drops) (λ _. refl) (λ _. refl)) i;
        pulled = (tab-at (λ l. (L ls l).pulled) (λ k. (L ls' k).pulled) about.lanes l
            ((L ls l).pulled + 1) may.0
            (ap (λ (x : LaneLists). x.pulled)
            (if_same l l (lanes.lane_changed (Pulled id) (L ls l)) (L ls l) refl))
            (λ j ne. ap (λ (x : LaneLists). x.pulled)
            (if_other l j (lanes.lane_changed (Pulled id) (L ls j)) (L ls j) ne))
            ∙ ap (λ n. set (Bares es).pulled l (n + 1))
            (sym (tab-is (λ l. (L ls l).pulled) 0 about.lanes l may.0))) i;
      })
  lane_event p (Held l w x) es may lawful = refl
  lane_event p (Missed l w) es may lawful = refl
  lane_event p (OutHeld o w x) es may lawful = refl
  lane_event p (OutMissed o w) es may lawful = refl
  lane_event p (OutFreed o) es may lawful = refl
  lane_event p (Retired l w) es may lawful =
      let ls : LaneOrder = lanes_of es in let ls' : LaneOrder = step_by p (Retired l w) ∷ ls in
      (λ i. record (Bares es) {
        retired = (tab-at (λ l. lanes.retired l ls) (λ k. lanes.retired k ls') about.lanes l
            (lanes.retired l ls + 1) may.0
            (if_same l l (lanes.retired l ls + 1) (lanes.retired l ls) refl)
            (λ j ne. if_other l j (lanes.retired j ls + 1) (lanes.retired j ls) ne)
            ∙ ap (λ n. set (Bares es).retired l (n + 1))
            (sym (tab-is (λ l. lanes.retired l ls) 0 about.lanes l may.0))) i;
      })
  lane_event p (Given o from id place) es may lawful =
      let ls : LaneOrder = lanes_of es in let ls' : LaneOrder = step_by p (Given o from id place) ∷
      ls in
      let fa = facts about ls lawful from in
      let was : lanes.phase from (steps_of (puller about from) ls) ≡ lanes.has_pulled id =
      ap (λ z. lanes.phase from (steps_of z ls)) may.2.4 ∙ may.2.5 in
      let waits : slice_get (L ls from).accepted (length (delivered_from from ls)) ≡ Some id =
      subst (λ (z : lanes.Phase). Waits about (delivered_from from ls) z (L ls from).accepted) was
      fa.3
      in
      let next : next_out (Bares es) from ≡ id =
      (λ i. slice_index (tab-is (λ l. (L ls l).accepted) [] about.lanes from may.1 i)
      (tab-is (λ l. length (delivered_from l ls)) 0 about.lanes from may.1 i))
      ∙ (get-inside (L ls from).accepted (length (delivered_from from ls)) id waits).1 in
      let g : Delivery = delivery o id place in
      let longer : length (g ∷ delivered_from from ls) ≡ length (delivered_from from ls) + 1 =
      omega arith in
      (λ i. record (Bares es) {
        delivered = (tab-at (λ l. length (delivered_from l ls)) (λ k. length (delivered_from k ls'))
            about.lanes from
            (length (delivered_from from ls) + 1) may.1
            (ap length (if_same from from (g ∷ delivered_from from ls)
            (delivered_from from ls) refl) ∙ longer)
            (λ j ne. ap length (if_other from j (g ∷ delivered_from j ls) (delivered_from j ls) ne))
            ∙ ap (λ n. set (Bares es).delivered from (n + 1))
            (sym (tab-is (λ l. length (delivered_from l ls)) 0 about.lanes from may.1))) i;
        outs = (tab-at (λ o. lanes.out o ls) (λ k. lanes.out k ls') about.outs o
            (lanes.out o ls ++ id ∷ []) may.0
            (if_same o o (lanes.out o ls ++ id ∷ []) (lanes.out o ls) refl)
            (λ j ne. if_other o j (lanes.out j ls ++ id ∷ []) (lanes.out j ls) ne)
            ∙ (λ k. set (Bares es).outs o
            (sym (tab-is (λ o. lanes.out o ls) [] about.outs o may.0) k ++ sym next k ∷ []))) i;
      })

  -- ---- steps at the gate

  insides : List (StepBy BoardStep) → ℕ → ℕ
  insides es p = is_in (visit_of about p es)

  unfold_insides : (es : List (StepBy BoardStep)) → inside_count about es ≡ sum_below
      (insides es) about.seats
  unfolding insides
  unfold_insides es = refl

  own_visit : (q : ℕ) (d : GateStep) (es : List (StepBy BoardStep))
      → insides (step_by q (Gate d) ∷ es) q ≡ is_in (gates.visit_after d (visit_of about q es))
  unfolding insides
  own_visit q d es = ap (λ l. is_in (gates.visit l)) (steps_of_own q q d (gates_of es) refl)

  other_visit : (q : ℕ) (d : GateStep) (es : List (StepBy BoardStep)) (p : ℕ) → p ≢ q
      → insides (step_by q (Gate d) ∷ es) p ≡ insides es p
  unfolding insides
  other_visit q d es p ne = ap (λ l. is_in (gates.visit l))
      (steps_of_other p q d (gates_of es) (λ h. ne (sym h)))

  now_visit : (q : ℕ) (es : List (StepBy BoardStep)) (v : gates.Visit) → visit_of about q es ≡ v
      → insides es q ≡ is_in v
  unfolding insides
  now_visit q es v is = ap is_in is

  -- how a step of the seat q changes the number inside
  moves_in : (q : ℕ) (d : GateStep) (es : List (StepBy BoardStep)) (v : gates.Visit)
      → q < about.seats → visit_of about q es ≡ v → inside_count about (step_by q (Gate d) ∷ es) +
      is_in v ≡ inside_count about es + is_in (gates.visit_after d v)
  moves_in q d es v l is =
      let s = sum_one (insides (step_by q (Gate d) ∷ es)) (insides es) about.seats q l
      (λ p _ ne. other_visit q d es p ne) in
      let a = now_visit q es v is in let b = own_visit q d es
      ∙ ap (λ z. is_in (gates.visit_after d z)) is in
      let x = unfold_insides es in let y = unfold_insides (step_by q (Gate d) ∷ es) in omega arith

  with_in : (q : ℕ) (d : GateStep) (es : List (StepBy BoardStep)) (n : ℕ) → inside_count about
      (step_by q (Gate d) ∷ es) ≡ n → Bares (step_by q (Gate d) ∷ es) ≡ record
      (Bares es) {
        inside = n;
        closed = nat_lt 0
            (gates.closed_after d (gates.all_closed (gates_of es)));
      }
  with_in q d es n is =
      ap (λ m. record (Bares es)
      { inside = m; closed = nat_lt 0 (gates.closed_after d (gates.all_closed (gates_of es))) }) is

  gate_event : (q : ℕ) (d : GateStep) (es : List (StepBy BoardStep)) → q < about.seats
      → gates.MayCome about q (gates_of es) d → (v : gates.Visit) → visit_of about q es ≡ v
      → Bares (step_by q (Gate d) ∷ es) ≡ bare_after (fixed about) (Bares es)
      (events.gate_event v d)
  gate_event q (Entered w) es l may v is = let m = moves_in q (Entered w) es gates.outside l
      may.2 in with_in q (Entered w) es (inside_count about es + 1) (omega arith)
  gate_event q (Turned w) es l may v is = let m = moves_in q (Turned w) es gates.outside l may.2 in
      with_in q (Turned w) es (inside_count about es) (omega arith)
  gate_event q Left es l may gates.inside is = let m = moves_in q Left es gates.inside l is in
      with_in q Left es (inside_count about es - 1) (omega arith)
  gate_event q Left es l may gates.outside is = let m = moves_in q Left es gates.outside l is in
      with_in q Left es (inside_count about es) (omega arith)
  gate_event q Left es l may gates.backing is = let m = moves_in q Left es gates.backing l is in
      with_in q Left es (inside_count about es) (omega arith)
  gate_event q (Shut w) es l may v is = let m = moves_in q (Shut w) es v l is in with_in q
      (Shut w) es (inside_count about es) (omega arith)
  gate_event q (NotShut w) es l may v is = let m = moves_in q (NotShut w) es v l is in with_in q
      (NotShut w) es (inside_count about es) (omega arith)
  gate_event q Opened es l may v is = let m = moves_in q Opened es v l is in with_in q Opened es
      (inside_count about es) (omega arith)
  gate_event q (Set i x) es l may v is = let m = moves_in q (Set i x) es v l is in with_in q
      (Set i x) es (inside_count about es) (omega arith)
  gate_event q (Read i x) es l may v is = let m = moves_in q (Read i x) es v l is in with_in q
      (Read i x) es (inside_count about es) (omega arith)

  -- ---- each event may happen

  module _ (es : List (StepBy BoardStep)) (lawful : IsLawful about es) where
    abbrev ls : LaneOrder
    ls = lanes_of es

    legal_lanes : lanes.AreLawful about ls
    legal_lanes = (parts about es lawful).0

    legal_gates : gates.AreLawful about (gates_of es)
    legal_gates = (parts about es lawful).1

    is_lane : (l : ℕ) → l < about.lanes → l < length (Bares es).accepted
    is_lane l less = let n = tab-length (λ l. (L ls l).accepted) 0 about.lanes in omega arith

    pulled_is : (l : ℕ) → l < about.lanes → pulled_at (Bares es) l ≡ (L ls l).pulled
    pulled_is l less = tab-is (λ l. (L ls l).pulled) 0 about.lanes l less

    retired_is : (l : ℕ) → l < about.lanes → retired_at (Bares es) l ≡ lanes.retired l ls
    retired_is l less = tab-is (λ l. lanes.retired l ls) 0 about.lanes l less

    delivered_is : (l : ℕ) → l < about.lanes → delivered_at (Bares es) l ≡ length
        (delivered_from l ls)
    delivered_is l less = tab-is (λ l. length (delivered_from l ls)) 0 about.lanes l less

    accepted_is : (l : ℕ) → l < about.lanes → accepted_at (Bares es) l ≡ (L ls l).accepted
    accepted_is l less = tab-is (λ l. (L ls l).accepted) [] about.lanes l less

    phase_is : (p l : ℕ) (o : lanes.Phase) → puller about l ≡ p → lanes.phase l (steps_of p ls) ≡ o
        → lanes.phase l (steps_of (puller about l) ls) ≡ o
    phase_is p l o by at = ap (λ z. lanes.phase l (steps_of z ls)) by ∙ at

    may_lane : (p : ℕ) (d : LaneStep) → lanes.MayCome about p ls d → MayBe (Bares es)
        (events.lane_event d)
    may_lane p (Freed l Nothing) may = tt
    may_lane p (Freed l (Offered id hash answer)) may = is_lane l may.0
    may_lane p (Freed l (Pulled id)) may =
        let o = phase_is p l lanes.idle may.1.2.0 may.1.2.2 in
        let same = (holds about ls legal_lanes l p may.1.0 may.1.1).1 in
        let less : (L ls l).pulled < length (L ls l).accepted =
        subst (λ (z : LaneLists). z.pulled < length z.accepted) (sym same)
        (get-inside may.1.0.accepted may.1.0.pulled id may.1.2.1).0 in
        let c : (L ls l).pulled ≡ lanes.retired l ls + 0 = (counted about ls legal_lanes l).0
        ∙ ap (λ z. lanes.retired l ls + out_of_hand about z) o in
        let a = pulled_is l may.0 in let b = retired_is l may.0 in let n = ap length
        (accepted_is l may.0) in
        (is_lane l may.0, omega arith, omega arith)
    may_lane p (Given o from id place) may =
        let at = phase_is p from (lanes.has_pulled id) may.2.4 may.2.5 in
        let c : (L ls from).pulled ≡ length (delivered_from from ls) + 1 =
        (facts about ls legal_lanes from).0
        ∙ ap (λ z. length (delivered_from from ls) + waiting about z)
        at in
        let a = pulled_is from may.1 in let b = delivered_is from may.1 in
        let n = tab-length (λ o. lanes.out o ls) 0 about.outs in
        (is_lane from may.1, omega arith, omega arith)
    may_lane p (Retired l w) may =
        let at = phase_is p l lanes.gave may.2 may.3 in
        let c : length (delivered_from l ls) ≡ lanes.retired l ls + 1 =
        (facts about ls legal_lanes l).1
        ∙ ap (λ z. lanes.retired l ls + gone about z) at in
        let a = retired_is l may.0 in let b = delivered_is l may.0 in
        (is_lane l may.0, omega arith)
    may_lane p (Held l w x) may = tt
    may_lane p (Missed l w) may = tt
    may_lane p (OutHeld o w x) may = tt
    may_lane p (OutMissed o w) may = tt
    may_lane p (OutFreed o) may = tt

    in_open : (v : gates.Visit) → is_in v ≤ gates.is_open v
    in_open gates.outside = omega arith
    in_open gates.inside = omega arith
    in_open gates.backing = omega arith

    sum_less : (f g : ℕ → ℕ) (n : ℕ) → ((p : ℕ) → f p ≤ g p) → sum_below f n ≤ sum_below g n
    sum_less f g zero less = omega arith
    sum_less f g (suc n) less = let a = sum_less f g n less in let b = less n in omega arith

    may_leave : (q : ℕ) (v : gates.Visit) → q < about.seats → visit_of about q es ≡ v
        → MayBe (Bares es) (events.leave_event v)
    may_leave q gates.inside l is =
        let a : is_in (visit_of about q es) ≡ 1 = ap is_in is in
        let b = sum_has (λ p. is_in (visit_of about p es)) about.seats q l in omega arith
    may_leave q gates.outside l is = tt
    may_leave q gates.backing l is = tt

    may_gate : (q : ℕ) (d : GateStep) (v : gates.Visit) → q < about.seats → visit_of about q es ≡ v
        → gates.MayCome about q (gates_of es) d → MayBe (Bares es) (events.gate_event v d)
    may_gate q (Entered w) v l is may = ap (nat_lt 0) may.1
    may_gate q Left v l is may = may_leave q v l is
    may_gate q (Shut w) v l is may =
        let none = may.2 in let all = sums about (gates_of es) legal_gates in
        let less = sum_less (λ p. is_in (visit_of about p es))
        (λ p. gates.is_open (visit_of about p es)) about.seats
        (λ p. in_open (visit_of about p es)) in
        omega arith
    may_gate q Opened v l is may =
        let c : gates.all_closed (gates_of es) ≡ 1 = (closes about (gates_of es) legal_gates).0
        ∙ (ap (λ z. gates.closed (steps_of z (gates_of es))) (sym may.0) ∙ may.1) in
        ap (nat_lt 0) c
    may_gate q (Turned w) v l is may = tt
    may_gate q (NotShut w) v l is may = tt
    may_gate q (Set i x) v l is may = tt
    may_gate q (Read i x) v l is may = tt

pub each_step_is_an_event : EachStepIsAnEvent
each_step_is_an_event about p (Lane d) es lawful = (
  may_lane about es lawful.2 p d lawful.1.0,
  lane_event about p d es lawful.1.0 (parts about es lawful.2).0,
)
each_step_is_an_event about p (Gate d) es lawful = (
  may_gate about es lawful.2 p d (visit_of about p es) lawful.0 refl lawful.1,
  gate_event about p d es lawful.0 lawful.1 (visit_of about p es) refl,
)
each_step_is_an_event about p (Weighed l w) es lawful = (tt, refl)
each_step_is_an_event about p (Counted l w) es lawful = (tt, refl)
each_step_is_an_event about p (OutCounted l w) es lawful = (tt, refl)
each_step_is_an_event about p (LaneOut k) es lawful = (tt, refl)
each_step_is_an_event about p (LaneIn k) es lawful = (tt, refl)

sum_none : (n : ℕ) → sum_below (λ _. 0) n ≡ 0
sum_none zero = refl
sum_none (suc n) = let a = sum_none n in omega arith

pub begins_fresh : BeginsFresh
begins_fresh about counts guests = λ i. record {
  accepted = tab-all {X = List ℕ} [] 0 about.lanes i;
  offers = tab-all {X = List (Option ℕ)} [] 0 about.lanes i;
  drops = tab-all {X = List LaneDrop} [] 0 about.lanes i;
  pulled = tab-all {X = ℕ} 0 0 about.lanes i;
  delivered = tab-all {X = ℕ} 0 0 about.lanes i;
  retired = tab-all {X = ℕ} 0 0 about.lanes i;
  outs = tab-all {X = List ℕ} [] 0 about.outs i;
  inside = sum_none about.seats i;
  closed = false;
}
