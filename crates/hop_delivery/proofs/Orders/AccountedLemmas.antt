-- An execution that meets the premises gives an account in the moments of the order.
use Rattle.std.proofs.{Common.length-append, lemmas.List.take-append-drop}
use Rattle.std.proofs.lemmas.List.{length-drop, Elements.All-head, Elements.All-tail}
use Rattle.std.proofs.lemmas.Option.{get_or_from_slice_get, slice_get_within}
use Rattle.std.specs.{List.Contains, Prelude.All}
use Rattle.hop_model.specs.Hop.{nobody}
use Rattle.linearization.specs.Orders.{step_by}
use Rattle.hop_rule.proofs.{Boards.lawful_past, Lists.get-inside, Moments.nth-last}
use Rattle.hop_rule.proofs.Moments.{nth-old, past-all, past-old, nth-first, nth-member, past-next}
use Rattle.hop_rule.proofs.{Numbers.rise, Numbers.none_between, Openings.settings_are_the_closers}
use Rattle.hop_rule.proofs.{Openings.visits_show_settings, OwnMoments.past_own}
use Rattle.hop_rule.proofs.Parts.{at_moment, from_moment, moments_rise}
use Rattle.hop_rule.specs.{Boards.gate_steps, Emptied.WasEmptied, Moments.Did, Moments.moment_of}
use Rattle.hop_rule.specs.declared.step.BoardStep.TheVariants.{Counted, LaneOut, LaneIn, OutCounted}
use Rattle.hop_rule.specs.declared.step.GateStep.{GateStep}
use Rattle.hop_rule.specs.declared.step.GateStep.TheVariants.{Turned, Shut, NotShut, Opened, Read}
use Rattle.hop_rule.specs.declared.step.LaneStep.TheVariants.{Given}
use Rattle.hop_delivery.proofs.Names.{◌≡◌, ℕ, zero, suc, ◌+◌, ◌-◌, ◌%◌, ◌^◌, ◌<◌, ◌≤◌, ◌==◌, true}
use Rattle.hop_delivery.proofs.Names.{List, [], ◌∷◌, ◌++◌, Option, Some, length, take, drop}
use Rattle.hop_delivery.proofs.Names.{if◌then◌else◌, sym, refl, ap, ◌∙◌, subst, arith, inl, inr}
use Rattle.hop_delivery.proofs.Names.{slice_get, slice_index, migrate, entry, of_class}
use Rattle.hop_delivery.proofs.Names.{current_lane, Chosen, Put, since_resize, StepBy, steps_of}
use Rattle.hop_delivery.proofs.Names.{if_same, if_other, IsLawful, accepted, settings, IsStep, past}
use Rattle.hop_delivery.proofs.Names.{nth_step, own_of, IsPut, FitSizes, closer, BoardSizes}
use Rattle.hop_delivery.proofs.Names.{BoardStep, Lane, Gate, Weighed, Offered, Entered, Left, Set}
use Rattle.hop_delivery.proofs.Names.{Freed, none-some, nth-inside, nth-some, step-inside}
use Rattle.hop_delivery.proofs.Names.{Execution, Steering, turns_of, Turn, turn_put}
use Rattle.hop_delivery.proofs.Orders.AccountLemmas.{Account, IsAccount, IsRuled, HasVisit}
use Rattle.hop_delivery.proofs.Orders.AccountLemmas.{WasLoaded, chosen}
use Rattle.hop_delivery.proofs.Orders.TurnLemmas.{Places, VisitAt, turns_have_places, nth-split}
use Rattle.hop_delivery.specs.Orders.Premises.{MeetsPremises, WasFoundEmpty, FindsEmpty}
use Rattle.hop_delivery.specs.Orders.{Premises.AllFindEmpty, Premises.GoesRight, Runs.word_of}
use Rattle.hop_rule.specs.Gates as gates
use Rattle.hop_delivery.specs.Orders.Runs as executions

-- the last change of a size, by the sizes up to a choice
since-same : (f g : ℕ → ℕ) (i : ℕ) → ((j : ℕ) → j ≤ i → f j ≡ g j)
    → since_resize f i ≡ since_resize g i
unfolding since_resize
since-same f g zero same = refl
since-same f g (suc i) same =
    let here = same i (omega arith) in let next = same (suc i) (omega arith) in
    let before = since-same f g i (λ j le. same j (omega arith)) in
    λ a. if here a == next a then before a else suc i

get-place : (xs ys : List ℕ) (i j x : ℕ) → slice_get xs i ≡ Some x → slice_get ys j ≡ Some x
    → (i < length xs) × (j < length ys) × (slice_index xs i ≡ slice_index ys j)
get-place xs ys i j x a b = let u = get-inside xs i x a in let v = get-inside ys j x b in
    (u.0, v.0, u.1 ∙ sym v.1)

-- ---- numbers of members

module _ {A : Type 0} where
  pub nth-all : (P : A → Type 0) (xs : List A) (j : ℕ) (x : A) → All P xs → nth_step xs j ≡ Some x
      → P x
  nth-all P [] j x all at = none-some x at
  nth-all P (y ∷ ys) j x all at = elim (nth-first y ys j x at) [
    | inl old ↦ nth-all P ys j x (All-tail P y ys all) old
    | inr new ↦ subst P new.0 (All-head P y ys all)
  ]

  -- a list from its k-th member on has the same numbers
  nth-past : (xs : List A) (k j : ℕ) → j < length (past k xs) → nth_step xs j ≡ nth_step
      (past k xs) j
  nth-past xs k j l = let m : ℕ = length xs - k in
      ap (λ zs. nth_step zs j) (sym (take-append-drop m xs)) ∙ nth-old (take m xs) (drop m xs) j l

  length-past : (xs : List A) (k : ℕ) → k ≤ length xs → length (past k xs) ≡ k
  length-past xs k le = let n = length-drop (length xs - k) xs in omega arith

  nth-next : (xs : List A) (k : ℕ) (x : A) → k < length xs → past (suc k) xs ≡ x ∷ past k xs
      → nth_step xs k ≡ Some x
  nth-next xs k x l is =
      let n = length-past xs k (omega arith) in let m = length-past xs (suc k) (omega arith) in
      nth-past xs (suc k) k (omega arith) ∙ (ap (λ zs. nth_step zs k) is
      ∙ (ap (nth_step (x ∷ past k xs)) (sym n) ∙ nth-last x (past k xs)))

-- the numbers of the first part of a list come after those of the second
nth-new : (xs ys : List BoardStep) (j : ℕ) (d : BoardStep) → nth_step xs j ≡ Some d
    → nth_step (xs ++ ys) (length ys + j) ≡ Some d
nth-new [] ys j d at = none-some d at
nth-new (x ∷ xs) ys j d at = let n = length-append xs ys in elim (nth-first x xs j d at) [
  | inl old ↦ (let inside = nth-inside xs j d old in if_other (length (xs ++ ys)) (length ys + j)
      (Some x) (nth_step (xs ++ ys) (length ys + j)) (λ e. absurd (omega arith))
      ∙ nth-new xs ys j d old)
  | inr new ↦ (let k = new.1 in if_same (length (xs ++ ys)) (length ys + j) (Some x)
      (nth_step (xs ++ ys) (length ys + j)) (omega arith) ∙ ap Some new.0)
]

-- a list with an opening
opened_has : (ds : List BoardStep) (j : ℕ) → nth_step ds j ≡ Some (Gate Opened) → 0 < gates.openings
    (gate_steps ds)
opened_has [] j at = none-some (Gate Opened) at
opened_has (d ∷ ds) j at = elim (nth-first d ds j (Gate Opened) at) [
  | inl old ↦ (let more = opened_has ds j old in by_step d more)
  | inr new ↦ subst (λ (x : BoardStep). 0 < gates.openings (gate_steps (x ∷ ds))) (sym new.0)
      (omega arith)
] where
  by_gate : (s : GateStep) → 0 < gates.openings (gate_steps ds) → 0 < gates.openings_after s
      (gates.openings (gate_steps ds))
  by_gate Opened more = omega arith
  by_gate (Entered w) more = more
  by_gate (Turned w) more = more
  by_gate Left more = more
  by_gate (Shut w) more = more
  by_gate (NotShut w) more = more
  by_gate (Set k v) more = more
  by_gate (Read k v) more = more

  by_step : (x : BoardStep) → 0 < gates.openings (gate_steps ds) → 0 < gates.openings
      (gate_steps (x ∷ ds))
  by_step (Gate s) more = by_gate s more
  by_step (Lane s) more = more
  by_step (Weighed l w) more = more
  by_step (Counted l w) more = more
  by_step (OutCounted l w) more = more
  by_step (LaneOut k) more = more
  by_step (LaneIn k) more = more

module _ (about : BoardSizes) (r : Steering) where
  finds_empty : (ds : List BoardStep) (k : ℕ) (d : BoardStep) → AllFindEmpty about r ds
      → nth_step ds k ≡ Some d → FindsEmpty about r (past k ds) d
  finds_empty [] k d all at = none-some d at
  finds_empty (x ∷ ds) k d all at = elim (nth-first x ds k d at) [
    | inl old ↦ (let l = nth-inside ds k d old in
        subst (λ (zs : List BoardStep). FindsEmpty about r zs d)
        (sym (past-old x ds k (omega arith))) (finds_empty ds k d all.1 old))
    | inr new ↦ (let e = new.1 in
        subst (λ (z : BoardStep × List BoardStep). FindsEmpty about r z.1 z.0)
        (λ i. (new.0 i, sym (past-old x ds k (omega arith) ∙ past-all ds k (omega arith)) i)) all.0)
  ]

-- ---- a lane that was found empty, in moments

module _ (about : BoardSizes) (order : List (StepBy BoardStep)) (k l w v : ℕ)
    (did : Did order (closer about) k (Gate (Set w v)))
    (f : WasFoundEmpty (past k (own_of order (closer about))) l) where
  abbrev C : ℕ
  C = closer about

  abbrev closers_own : List BoardStep
  closers_own = own_of order C

  abbrev before : List BoardStep
  before = past k closers_own

  in_list : k < length closers_own
  in_list = nth-inside closers_own k (Gate (Set w v)) did

  of_own : (j : ℕ) (d : BoardStep) → nth_step before j ≡ Some d → (j < k) × Did order C j d
  of_own j d at =
      let inside = nth-inside before j d at in let m = in_list in let n = length-past closers_own k
      (omega arith) in (omega arith, nth-past closers_own k j inside ∙ at)

  abbrev since_shut : List BoardStep
  since_shut = Gate (Shut f.word) ∷ f.older

  -- a step of those since the close
  in_since : (j : ℕ) (d : BoardStep) → nth_step f.since j ≡ Some d → nth_step before
      (length since_shut + j) ≡ Some d
  in_since j d at = ap (λ zs. nth_step zs (length since_shut + j)) f.closed
      ∙ nth-new f.since since_shut j d at

  abbrev from_weighed : List BoardStep
  from_weighed = f.between ++ (Weighed l f.head ∷ f.first)

  shut_did : (length f.older < k) × Did order C (length f.older) (Gate (Shut f.word))
  shut_did = of_own (length f.older) (Gate (Shut f.word))
      (ap (λ zs. nth_step zs (length f.older)) f.closed
      ∙ (nth-old f.since since_shut (length f.older) (omega arith)
      ∙ nth-last (Gate (Shut f.word)) f.older))

  weighed_at : ℕ
  weighed_at = length since_shut + length f.first

  counted_at : ℕ
  counted_at = length since_shut + length from_weighed

  sizes : length from_weighed ≡ length f.between + (length f.first + 1)
  sizes = let n = length-append f.between (Weighed l f.head ∷ f.first) in omega arith

  weighed_did : (weighed_at < k) × Did order C weighed_at (Weighed l f.head)
  unfolding weighed_at
  weighed_did =
      let n = sizes in
      of_own weighed_at (Weighed l f.head) (in_since (length f.first) (Weighed l f.head)
      (ap (λ zs. nth_step zs (length f.first)) f.loads
      ∙ (nth-old f.after (Counted l f.tail ∷ from_weighed) (length f.first) (omega arith)
      ∙ (nth-old (Counted l f.tail ∷ []) from_weighed (length f.first) (omega arith)
      ∙ (nth-old f.between (Weighed l f.head ∷ f.first) (length f.first) (omega arith)
      ∙ nth-last (Weighed l f.head) f.first)))))

  counted_did : (counted_at < k) × Did order C counted_at (Counted l f.tail)
  unfolding counted_at
  counted_did =
      of_own counted_at (Counted l f.tail) (in_since (length from_weighed) (Counted l f.tail)
      (ap (λ zs. nth_step zs (length from_weighed)) f.loads
      ∙ (nth-old f.after (Counted l f.tail ∷ from_weighed) (length from_weighed) (omega arith)
      ∙ nth-last (Counted l f.tail) from_weighed)))

  later : (length f.older < weighed_at) × (weighed_at < counted_at)
  unfolding weighed_at counted_at
  later = let n = sizes in (omega arith, omega arith)

  not_opened : (j : ℕ) → length f.older < j → j < k → Did order C j (Gate Opened) → ⊥
  not_opened j from to at =
      let m = in_list in let n = length-past closers_own k (omega arith) in
      let here : nth_step (f.since ++ since_shut) j ≡ Some (Gate Opened) = ap (λ zs. nth_step zs j)
      (sym f.closed) ∙ (sym (nth-past closers_own k j (omega arith)) ∙ at) in
      elim (nth-split f.since since_shut j (Gate Opened) here) [
        | inl old ↦ (let i = nth-inside since_shut j (Gate Opened) old in absurd (omega arith))
        | inr new ↦ (let some = opened_has f.since new.0 new.1 in let none = f.stays in
            absurd (omega arith))
      ]

  was_emptied : WasEmptied about order (moment_of C order k) l
  was_emptied = record {
    shut = moment_of C order (length f.older);
    weighed = moment_of C order weighed_at;
    counted = moment_of C order counted_at;
    word = f.word;
    head = f.head;
    tail = f.tail;
    after_shut = rise about order C (length f.older) weighed_at (Weighed l f.head) later.0
        weighed_did.1;
    after_weighed = rise about order C weighed_at counted_at (Counted l f.tail) later.1
        counted_did.1;
    before = rise about order C counted_at k (Gate (Set w v)) counted_did.0 did;
    shuts = at_moment C order (length f.older) (Gate (Shut f.word)) shut_did.1;
    weighs = at_moment C order weighed_at (Weighed l f.head) weighed_did.1;
    counts = at_moment C order counted_at (Counted l f.tail) counted_did.1;
    equal = f.equal;
    stays = λ m from to is. none_between about order C (length f.older) k m (Gate (Shut f.word))
        (Gate (Set w v)) (Gate Opened) shut_did.1 did not_opened from to is;
  }

-- ---- the account

module _ (about : BoardSizes) (order : List (StepBy BoardStep)) (t : Execution) (r : Steering)
    (fit : FitSizes about) (lawful : IsLawful about order)
    (good : MeetsPremises about (own_of order) (accepted about order) t r) where
  abbrev pub own : ℕ → List BoardStep
  own = own_of order

  abbrev pub acc : ℕ → List ℕ
  acc = accepted about order

  pub places_of : (q : ℕ) → Places (own q) (t.turns q)
  places_of q = turns_have_places (own q) (t.turns q) (good.explained q)

  -- the number of a producer's turn among those of its seat
  abbrev pub turn_at : ℕ → ℕ → ℕ
  turn_at p i = moment_of p (t.turns (t.seat p)) i

  -- the moments of an entry and of a put, by the numbers of own steps
  pub entered_at : ℕ → ℕ → ℕ
  entered_at p i = moment_of (t.seat p) order ((places_of (t.seat p)).entered (turn_at p i))

  pub put_at : ℕ → ℕ → ℕ
  put_at p i = moment_of (t.seat p) order ((places_of (t.seat p)).put (turn_at p i))

  abbrev pub account : Account
  account = record {
    arrivals = t.arrivals;
    choices = t.choices;
    placed = λ p. length (turns_of t p);
    seat = t.seat;
    entered = entered_at;
    put = put_at;
  }

  module _ (p i : ℕ) (u : Turn) (at : nth_step (turns_of t p) i ≡ Some u) where
    abbrev q : ℕ
    q = t.seat p

    abbrev places : Places (own q) (t.turns q)
    places = places_of q

    turn_inside : turn_at p i < length (t.turns q)
    turn_inside = step-inside (t.turns q) (turn_at p i) p u (at_moment p (t.turns q) i u at)

    turn_is : nth_step (t.turns q) (turn_at p i) ≡ Some (step_by p u)
    turn_is = nth-next (t.turns q) (turn_at p i) (step_by p u) turn_inside
        (at_moment p (t.turns q) i u at)

    visit : VisitAt (own q) u (places.entered (turn_at p i)) (places.put (turn_at p i))
    visit = places.visits (turn_at p i) (step_by p u) turn_is

    chosen_is : chosen account p i ≡ u.chosen
    chosen_is = get_or_from_slice_get (t.choices p) i u.chosen nobody (good.chosen p i u at)

    enters_at : IsStep order (entered_at p i) q (Gate (Entered u.word))
    unfolding entered_at
    enters_at = at_moment q order (places.entered (turn_at p i)) (Gate (Entered u.word))
        visit.enters

    puts_at : IsStep order (put_at p i) q (turn_put u)
    unfolding put_at
    puts_at = at_moment q order (places.put (turn_at p i)) (turn_put u) visit.puts

    has_visit : HasVisit about order account r p i
    unfolding entered_at put_at
    has_visit = record {
      word = u.word;
      enters = enters_at;
      hash = u.hash;
      answer = u.answer;
      puts = subst (λ (c : Chosen). IsPut about order (put_at p i) q c.choice.lane c.id u.hash
          u.answer) (sym chosen_is) puts_at;
      after = rise about order q (places.entered (turn_at p i)) (places.put (turn_at p i))
          (turn_put u) visit.after visit.puts;
      stays = λ m from to is. none_between about order q (places.entered (turn_at p i))
          (places.put (turn_at p i)) m (Gate (Entered u.word)) (turn_put u) (Gate Left) visit.enters
          visit.puts visit.stays from to is;
    }

    settings_is : settings about (past (entered_at p i) order) ≡ executions.settings_at about own
        acc t r p i
    settings_is = visits_show_settings about order fit lawful (entered_at p i) q u.word enters_at
        ∙ ap (λ o. executions.settings_of_visit about own (word_of o)) (sym at)

    -- a load of a head among the early steps of the turn
    was_loaded : (l w number : ℕ) → Contains u.early (Weighed l w) → w % 2 ^ 32 ≡ number
        → WasLoaded about order account r p i l number
    unfolding put_at
    was_loaded l w number has shows = let e = visit.early (length u.early - suc has.0) (Weighed l w)
        (nth-member u.early has.0 (Weighed l w) has.1 ∙ ap Some has.2) in
        record {
          moment = moment_of q order e.0;
          word = w;
          before = rise about order q e.0 (places.put (turn_at p i)) (turn_put u) e.2 visit.puts;
          weighs = at_moment q order e.0 (Weighed l w) e.3;
          shows = shows;
        }

  turn_of : (p i : ℕ) → i < length (turns_of t p) → (u : Turn)
      × (nth_step (turns_of t p) i ≡ Some u)
  turn_of p i l = nth-some (turns_of t p) i l

  ruled : (p i : ℕ) → i < length (turns_of t p) → IsRuled about order account r p i
  ruled p i l =
      let u = turn_of p i l in
      let b = good.by_rule p i u.0 u.1 in
      let s = settings_is p i u.0 u.1 in
      let since : since_resize (executions.shape_at about own acc t r p) i ≡ since_resize
      (λ j. r.shape (settings about (past (entered_at p j) order)) p) i =
      since-same (executions.shape_at about own acc t r p)
      (λ j. r.shape (settings about (past (entered_at p j) order)) p) i
      (λ j le. let v = turn_of p j (omega arith) in ap (λ z. r.shape z p)
      (sym (settings_is p j v.0 v.1))) in
      let c = chosen_is p i u.0 u.1 in by_paths u.0 u.1 b (sym s) since (sym c) where
        by_paths : (u : Turn) → nth_step (turns_of t p) i ≡ Some u
            → (b : executions.IsByRule about own acc t r p i u)
            → executions.settings_at about own acc t r p i
            ≡ settings about (past (entered_at p i) order)
            → since_resize (executions.shape_at about own acc t r p) i ≡ since_resize
            (λ j. r.shape (settings about (past (entered_at p j) order)) p) i
            → u.chosen ≡ chosen account p i → IsRuled about order account r p i
        by_paths u at b s n c = record {
          head = b.head;
          rule = subst (λ (z : (ℕ → ℕ) × (ℕ × Chosen)). z.1.1.choice
              ≡ migrate (r.class (r.shape z.0 p) (r.flow z.1.1.id)) z.1.1.choice.want
              (executions.goal_of r z.0 p (r.flow z.1.1.id)
              (r.class (r.shape z.0 p) (r.flow z.1.1.id)) z.1.1.choice.want)
              (entry about.start acc (drop z.1.0 (take i (t.choices p)))) (λ _. b.head)
              (r.online z.0)) (λ j. (s j, (n j, c j))) b.rule;
          loaded = λ k l class lane head. (
              let same_class : executions.class_at about own acc t r p i u ≡ Some k =
              (λ j. r.class (r.shape (s j) p) (r.flow (c j).id)) ∙ class in
              let same_lane :
              current_lane (of_class k (executions.before about own acc t r p i)) ≡ Some l =
              ap (λ m. current_lane (of_class k (drop m (take i (t.choices p))))) n ∙ lane in
              let w =
              b.loaded k l same_class same_lane (ap (λ (z : Chosen). z.choice.head) c ∙ head)
              in was_loaded p i u at l w.0 b.head w.1 w.2);
          goal_online = subst (λ (z : (ℕ → ℕ) × Chosen). r.online z.0
              (executions.goal_of r z.0 p (r.flow z.1.id) (r.class (r.shape z.0 p) (r.flow z.1.id))
              z.1.choice.want) ≡ true) (λ j. (s j, c j)) b.goal_online;
        }

  all_puts_are : (n q l id : ℕ) (hash : Option ℕ) (answer : Put) → IsPut about order n q l id hash
      answer → (p : ℕ) × (i : ℕ) × (i < length (turns_of t p)) × (put_at p i ≡ n)
  unfolding put_at
  all_puts_are n q l id hash answer is =
      let f = from_moment q order n (Lane (Freed l (Offered id hash answer))) is in
      let a = (places_of q).all_puts f.0 l id hash answer f.1 in
      let e = nth-some (t.turns q) a.0 a.1 in
      let p : ℕ = e.0.by in
      let seat : t.seat p ≡ q = nth-all (λ (z : StepBy Turn). t.seat z.by ≡ q) (t.turns q) a.0 e.0
      (good.by_seat q) e.1 in
      let here : IsStep (t.turns q) a.0 p e.0.step = past-next (t.turns q) a.0 e.0 e.1 in
      let i = from_moment p (t.turns q) a.0 e.0.step here in
      let inside : i.0 < length (turns_of t p) =
      subst (λ (z : ℕ). i.0 < length (steps_of p (t.turns z))) (sym seat)
      (nth-inside (steps_of p (t.turns q)) i.0 e.0.step i.1) in (
        p,
        i.0,
        inside,
        (λ j. moment_of (seat j) order
            ((places_of (seat j)).put (moment_of p (t.turns (seat j)) i.0)))
            ∙ (ap (λ z. moment_of q order ((places_of q).put z)) i.2
            ∙ (ap (moment_of q order) a.2 ∙ f.2)),
      )

  in_order_are : (p i : ℕ) → suc i < length (turns_of t p) → put_at p i < entered_at p (suc i)
  unfolding put_at entered_at
  in_order_are p i l =
      let u = turn_of p (suc i) l in
      let up = moments_rise p (t.turns (t.seat p)) i (suc i) (omega arith) l in
      let v = visit p (suc i) u.0 u.1 in
      rise about order (t.seat p) ((places_of (t.seat p)).put (turn_at p i))
      ((places_of (t.seat p)).entered (turn_at p (suc i))) (Gate (Entered u.0.word))
      ((places_of (t.seat p)).in_order (turn_at p i) (turn_at p (suc i)) up
      (turn_inside p (suc i) u.0 u.1)) v.enters

  emptied_are : (n w v l : ℕ) → IsStep order n (closer about) (Gate (Set w v)) → l < about.lanes
      → r.affects (settings about (past n order)) w v l ≡ true → WasEmptied about order n l
  emptied_are n w v l is inside affects =
      let c : ℕ = closer about in
      let f = from_moment c order n (Gate (Set w v)) is in
      let s : settings about (past n order) ≡ gates.own_settings about
      (gate_steps (past f.0 (own c))) =
      settings_are_the_closers about (past n order) (lawful_past about order n lawful)
      ∙ (ap (λ z. gates.own_settings about (gate_steps (own_of (past z order) c))) (sym f.2)
      ∙ ap (λ ds. gates.own_settings about (gate_steps ds))
      (sym (past_own c order f.0 (Gate (Set w v)) f.1))) in
      let found = finds_empty about r (own c) f.0 (Gate (Set w v)) good.emptied f.1 l inside
      (ap (λ z. r.affects z w v l) (sym s) ∙ affects) in
      subst (λ (m : ℕ). WasEmptied about order m l) f.2
      (was_emptied about order f.0 l w v f.1 found)

  pub is_account : IsAccount about order account r
  is_account = record {
    once = λ p q i j x at at'. (let g = get-place (t.arrivals p) (t.arrivals q) i j x at at' in
        good.once p q i j g.0 g.1 g.2);
    arrived = λ p i l. (let u = turn_of p i l in good.arrived p i u.0 u.1
        ∙ ap (λ (z : Chosen). Some z.id) (sym (chosen_is p i u.0 u.1)));
    few = few_are;
    visits = λ p i l. (let u = turn_of p i l in has_visit p i u.0 u.1);
    in_order = in_order_are;
    all_puts = all_puts_are;
    given = λ n q o from id place is.
        (let f = from_moment q order n (Lane (Given o from id place)) is in nth-all (GoesRight r)
        (own q) f.0 (Lane (Given o from id place)) (good.given q) f.1);
    by_rule = ruled;
    emptied = emptied_are;
  } where
    few_are : (p : ℕ) → length (turns_of t p) ≤ length (t.choices p)
    few_are p = by_count (length (turns_of t p)) refl where
      by_count : (n : ℕ) → length (turns_of t p) ≡ n → n ≤ length (t.choices p)
      by_count zero e = omega arith
      by_count (suc n) e = let u = turn_of p n (omega arith) in let l = slice_get_within
          (t.choices p) n u.0.chosen (good.chosen p n u.0 u.1) in omega arith
