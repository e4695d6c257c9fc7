-- Two choices of one flow of one producer: where they have different lanes, the earlier packet was
-- retired before the
-- later one was put.
use Rattle.std.proofs.{Common.get_or, lemmas.Bool.ne_eqb, lemmas.Bool.eqb-true}
use Rattle.std.proofs.lemmas.List.{get_or-drop, get_or-take, length-drop, length-take-le, drop-take}
use Rattle.std.specs.Prelude.{◌==◌, slice_index_or}
use Rattle.steer_base.proofs.RuleLemmas.{by_entry-class, by_entry-online}
use Rattle.steer_base.specs.declared.choice.{Choice.Choice, Entry.Entry}
use Rattle.dev_flow_table.proofs.WalksLemmas.{since_is_last_change, walk_keeps_order}
use Rattle.dev_flow_table.specs.Walks.{IsRuled as IsRuledAt, IsWalk, since_resize}
use Rattle.hop_model.specs.Hop.{nobody}
use Rattle.hop_rule.proofs.Boards.{few, lawful_past, retired_later}
use Rattle.hop_rule.specs.{Boards.retired, declared.sizes.TheConstants.MAX_BOARD_ROOM}
use Rattle.hop_delivery.proofs.Names.{ℕ, zero, suc, ◌+◌, ◌-◌, ◌^◌, ◌%◌, ◌≤◌, ◌<◌, ◌≡◌, ◌⊎◌, inl}
use Rattle.hop_delivery.proofs.Names.{inr, Bool, true, false, List, [], ◌∷◌, Option, Some, None}
use Rattle.hop_delivery.proofs.Names.{length, refl, ap, ◌∙◌, sym, arith, take, drop, subst}
use Rattle.hop_delivery.proofs.Names.{cases_Bool, cases_eq, cases_lt, eq-eqb, true≢false, migrate}
use Rattle.hop_delivery.proofs.Names.{entry, position, Chosen, StepBy, IsLawful, accepted}
use Rattle.hop_delivery.proofs.Names.{with_setting, past, FitSizes, BoardSizes, BoardStep, Weighed}
use Rattle.hop_delivery.proofs.Names.{step_lawful, IsSteering, Steering, goal_of}
use Rattle.hop_delivery.proofs.Orders.AccountLemmas.{Account, IsAccount, IsRuled, At, before}
use Rattle.hop_delivery.proofs.Orders.AccountLemmas.{chosen, class_at, flow_at, lane_chosen}
use Rattle.hop_delivery.proofs.Orders.AccountLemmas.{retired_at, settings_at, shape_at, empties}
use Rattle.hop_delivery.proofs.Orders.AccountLemmas.{in_range, puts_rise, rises}

-- ---- the lesser of two numbers

abbrev lesser : ℕ → ℕ → ℕ
lesser zero i = 0
lesser (suc n) zero = 0
lesser (suc n) (suc i) = suc (lesser n i)

lesser-le : (n i : ℕ) → lesser n i ≤ n
lesser-le zero i = omega arith
lesser-le (suc n) zero = omega arith
lesser-le (suc n) (suc i) = let t = lesser-le n i in omega arith

lesser-is : (n i : ℕ) → i ≤ n → lesser n i ≡ i
lesser-is zero i le = omega arith
lesser-is (suc n) zero le = refl
lesser-is (suc n) (suc i) le = let t = lesser-is n i (omega arith) in omega arith

lesser-rise : (n i j : ℕ) → i ≤ j → lesser n i ≤ lesser n j
lesser-rise zero i j le = omega arith
lesser-rise (suc n) zero j le = omega arith
lesser-rise (suc n) (suc i) zero le = absurd (omega arith)
lesser-rise (suc n) (suc i) (suc j) le = let t = lesser-rise n i j (omega arith) in omega arith

-- ---- where a size was changed last

since-again : (size : ℕ → ℕ) (j k : ℕ) → since_resize size j ≤ k → k ≤ j
    → since_resize size k ≡ since_resize size j
unfolding since_resize
since-again size zero k from to = let e : k ≡ 0 = omega arith in ap (since_resize size) e
since-again size (suc j) k from to = elim (cases_eq k (suc j)) [
  | inl e ↦ ap (since_resize size) e
  | inr ne ↦ elim (cases_Bool (size j == size (suc j))) [
    | inl e ↦ (
        let below : since_resize size j ≤ k = rw e at from in
        let t = since-again size j k below (omega arith) in rw e t)
    | inr e ↦ (
        let below : suc j ≤ k = rw e at from in absurd (omega arith))
  ]
]

get_or-any : (xs : List Chosen) (k : ℕ) (d e : Chosen) → k < length xs
    → get_or xs k d ≡ get_or xs k e
get_or-any [] k d e l = absurd (omega arith)
get_or-any (x ∷ xs) zero d e l = refl
get_or-any (x ∷ xs) (suc k) d e l = get_or-any xs k d e (omega arith)

module _ (about : BoardSizes) (order : List (StepBy BoardStep)) (fit : FitSizes about)
    (lawful : IsLawful about order) (a : Account) (r : Steering) (steers : IsSteering about.lanes r)
    (good : IsAccount about order a r) (p : ℕ) where
  abbrev acc : ℕ → List ℕ
  acc = accepted about order

  abbrev c : ℕ → Chosen
  c i = chosen a p i

  abbrev lane : ℕ → ℕ
  lane i = lane_chosen a p i

  abbrev size : ℕ → ℕ
  size = shape_at about order a r p

  abbrev class : ℕ → Option ℕ
  class = class_at about order a r p

  abbrev online : ℕ → ℕ → Bool
  online i = r.online (settings_at about order a r p i)

  abbrev IsAt : ℕ → ℕ → Type 0
  IsAt i n = At about order a r p i n

  abbrev gone : ℕ → ℕ → ℕ
  gone i l = retired_at about order a r p i l

  few_choices : (i : ℕ) → i < a.placed p → i < length (a.choices p)
  few_choices i l = let f = good.few p in omega arith

  accepted_fits : (l : ℕ) → length (acc l) ≤ MAX_BOARD_ROOM
  accepted_fits l = let b = (few about order l lawful).1 in let f = fit.room in omega arith

  retired_fits : (n l : ℕ) → retired about (past n order) l ≤ MAX_BOARD_ROOM
  retired_fits n l = let b = few about (past n order) l (lawful_past about order n lawful) in
      let b0 = b.0 in let b1 = b.1 in let f = fit.room in omega arith

  -- ---- one choice

  abbrev desired : ℕ → ℕ
  desired i = r.desired (settings_at about order a r p i) p (flow_at about order a r p i)
      (c i).choice.want

  abbrev entry_at : ℕ → ℕ → Entry
  entry_at i k = entry about.start acc (before about order a r p i) k

  rule_of : (i : ℕ) (x : Option ℕ) → i < a.placed p → class i ≡ x
      → (b : IsRuled about order a r p i) → (c i).choice ≡ migrate x (c i).choice.want
      (goal_of r (settings_at about order a r p i) p (flow_at about order a r p i) x
      (c i).choice.want) (entry about.start acc (before about order a r p i)) (λ _. b.head)
      (online i)
  rule_of i x l is b = b.rule ∙ (λ y. migrate (is y) (c i).choice.want
      (goal_of r (settings_at about order a r p i) p (flow_at about order a r p i) (is y)
      (c i).choice.want) (entry about.start acc (before about order a r p i)) (λ _. b.head)
      (online i))

  has_class : (i k : ℕ) → i < a.placed p → class i ≡ Some k → (c i).choice.class ≡ Some k
  has_class i k l is = let b = good.by_rule p i l in
      ap (λ (x : Choice). x.class) (rule_of i (Some k) l is b) ∙ by_entry-class k (c i).choice.want
      (desired i) (entry_at i k).tail (λ _. b.head) (online i) (entry_at i k).lane

  plain_lane : (i : ℕ) → i < a.placed p → class i ≡ None → lane i ≡ r.plain
      (settings_at about order a r p i) p (flow_at about order a r p i)
  plain_lane i l is = let b = good.by_rule p i l in ap (λ (z : Choice). z.lane)
      (rule_of i None l is b)

  plain_class : (i : ℕ) → i < a.placed p → class i ≡ None → (c i).choice.class ≡ None
  plain_class i l is = let b = good.by_rule p i l in ap (λ (z : Choice). z.class)
      (rule_of i None l is b)

  -- the class of a choice is that of its flow
  class_of : (i k : ℕ) → i < a.placed p → (c i).choice.class ≡ Some k → class i ≡ Some k
  class_of i k l is = by_class (class i) refl where
    by_class : (x : Option ℕ) → class i ≡ x → class i ≡ Some k
    by_class None e = Rattle.hop_rule.proofs.Lists.none-some k (sym (plain_class i l e) ∙ is)
    by_class (Some m) e = e ∙ (sym (has_class i m l e) ∙ is)

  -- a choice goes to a lane that is online
  lane_online : (i : ℕ) → i < a.placed p → online i (lane i) ≡ true
  lane_online i l = by_class (class i) refl where
    by_class : (x : Option ℕ) → class i ≡ x → online i (lane i) ≡ true
    by_class x e =
        let b = good.by_rule p i l in
        let goal : online i (goal_of r (settings_at about order a r p i) p
        (flow_at about order a r p i) x (c i).choice.want) ≡ true =
        subst (λ (z : Option ℕ). online i
        (goal_of r (settings_at about order a r p i) p (flow_at about order a r p i) z
        (c i).choice.want) ≡ true) e b.goal_online in by_kind x e b goal where
          by_kind : (x : Option ℕ) → class i ≡ x → (b : IsRuled about order a r p i)
              → online i (goal_of r (settings_at about order a r p i) p
              (flow_at about order a r p i) x (c i).choice.want) ≡ true → online i (lane i) ≡ true
          by_kind None e b goal = ap (online i) (plain_lane i l e) ∙ goal
          by_kind (Some k) e b goal = ap (λ (z : Choice). online i z.lane)
              (rule_of i (Some k) l e b) ∙ by_entry-online k (c i).choice.want (desired i)
              (entry_at i k).tail (λ _. b.head) (online i) (entry_at i k).lane goal

  -- what the rule for a choice with a class tells of the retired counts at its put
  drained_at : (i : ℕ) → i < a.placed p → (m n : ℕ) (d : Chosen)
      → m < length (before about order a r p i)
      → online i (slice_index_or (before about order a r p i) m d).choice.lane ≡ false
      → position acc (slice_index_or (before about order a r p i) m d) ≡ Some n
      → n ≤ gone i (slice_index_or (before about order a r p i) m d).choice.lane
  drained_at i l m n d inside off at =
      let f = few_choices i l in
      let s : ℕ = since_resize size i in
      let le = (since_is_last_change size i).0 in
      let long : length (before about order a r p i) ≡ i - s = length-drop s (take i (a.choices p))
      ∙ ap (λ n. n - s) (length-take-le i (a.choices p) (omega arith)) in
      let x : slice_index_or (before about order a r p i) m d ≡ c (s + m) = get_or-drop s
      (take i (a.choices p)) m d ∙ (get_or-take i (a.choices p) (s + m) d (omega arith)
      ∙ get_or-any (a.choices p) (s + m) d nobody (omega arith)) in
      let off' : online i (lane (s + m)) ≡ false = ap (λ (z : Chosen). online i z.choice.lane)
      (sym x) ∙ off in
      let gone_ = empties about order fit lawful a r good p (s + m) (s + m) i n
      (λ z. r.online z (lane (s + m))) (omega arith) (omega arith) l
      (lane_online (s + m) (omega arith)) off' (λ z w v yes_ no_. steers.off z w v (lane (s + m))
      (in_range about order lawful a r good p (s + m) (omega arith)) yes_ no_)
      (ap (position acc) (sym x) ∙ at) in
      subst (λ (z : Chosen). n ≤ gone i z.choice.lane) (sym x) gone_

  at_choice : (i k : ℕ) → i < a.placed p → class i ≡ Some k → IsRuledAt about.start acc (gone i)
      (before about order a r p i) k (c i)
  at_choice i k l is = let b = good.by_rule p i l in record {
    desired = desired i;
    online = online i;
    head = b.head;
    rule = rule_of i (Some k) l is b;
    seen = λ m there looked. (
        let w = b.loaded k m is there looked in
        let value = (step_lawful about order w.moment (a.seat p) (Weighed m w.word) lawful
        w.weighs).1.1 in
        let before_put = w.before in (
          retired about (past w.moment order) m,
          sym w.shows ∙ ap (λ z. z % 2 ^ 32) value,
          retired_later about order w.moment (a.put p i) m (omega arith),
        ));
    drained = λ m n d inside off at. drained_at i l m n d inside off at;
  }

  -- ---- the choices of a producer since its last resize are a walk

  module _ (j : ℕ) (placed : j < a.placed p) where
    s : ℕ
    s = since_resize size j

    since : s ≤ j
    unfolding s
    since = (since_is_last_change size j).0

    abbrev cs : List Chosen
    cs = drop s (take (suc j) (a.choices p))

    long : length cs ≡ suc j - s
    long = let l = few_choices j placed in length-drop s (take (suc j) (a.choices p))
        ∙ ap (λ n. n - s) (length-take-le (suc j) (a.choices p) (omega arith))

    choice_is : (i : ℕ) (d : Chosen) → s + i ≤ j → slice_index_or cs i d ≡ c (s + i)
    choice_is i d le =
        let l = few_choices j placed in
        get_or-drop s (take (suc j) (a.choices p)) i d
        ∙ (get_or-take (suc j) (a.choices p) (s + i) d (omega arith) ∙ get_or-any (a.choices p)
        (s + i) d nobody (omega arith))

    before_is : (i : ℕ) → s + i ≤ j → take i cs ≡ before about order a r p (s + i)
    unfolding s
    before_is i le =
        let m : ℕ = suc j - (s + i) in
        let split : suc j ≡ s + (i + m) = omega arith in
        let again = since-again size j (s + i) (omega arith) le in
        ap (λ n. take i (drop s (take n (a.choices p)))) split
        ∙ (ap (take i) (drop-take s (i + m) (a.choices p)) ∙ (take-less i m (drop s (a.choices p))
        ∙ (sym (drop-take s i (a.choices p)) ∙ ap (λ n. drop n (take (s + i) (a.choices p)))
        (sym again)))) where
          take-less : (i m : ℕ) (xs : List Chosen) → take i (take (i + m) xs) ≡ take i xs
          take-less zero m xs = refl
          take-less (suc i) m [] = let e : suc i + m ≡ suc (i + m) = omega arith in
              ap (λ n. take (suc i) (take {A = Chosen} n [])) e
          take-less (suc i) m (x ∷ xs) = let e : suc i + m ≡ suc (i + m) = omega arith in
              ap (λ n. take (suc i) (take n (x ∷ xs))) e ∙ ap (λ zs. x ∷ zs) (take-less i m xs)

    -- the retired counts at the put of a choice of the walk, and at the last one's from then on
    abbrev at_walk : ℕ → ℕ
    at_walk i = s + lesser (j - s) i

    abbrev gone_at : ℕ → ℕ → ℕ
    gone_at i l = gone (at_walk i) l

    at_walk_is : (i : ℕ) → s + i ≤ j → at_walk i ≡ s + i
    at_walk_is i le = let e = lesser-is (j - s) i (omega arith) in omega arith

    gone_rises : (i k l : ℕ) → i ≤ k → gone_at i l ≤ gone_at k l
    gone_rises i k l le =
        let b = since in let m = lesser-rise (j - s) i k le in let n = lesser-le (j - s) k in
        elim (cases_eq (at_walk i) (at_walk k)) [
          | inl e ↦ (let z : gone_at i l ≡ gone_at k l = ap (λ n. gone n l) e in omega arith)
          | inr ne ↦ (let up = puts_rise about order lawful a r good p (at_walk i) (at_walk k)
              (omega arith) (omega arith) in
              retired_later about order (a.put p (at_walk i)) (a.put p (at_walk k)) l (omega arith))
        ]

    abbrev Place : ℕ → Chosen → Type 0
    Place n d = position acc d ≡ Some n

    in_order : (i k n m : ℕ) (d : Chosen) → i < k → k < length cs
        → (slice_index_or cs i d).choice.lane ≡ (slice_index_or cs k d).choice.lane
        → Place n (slice_index_or cs i d) → Place m (slice_index_or cs k d) → n < m
    in_order i k n m d less inside same at at' =
        let e = long in let b = since in
        let x = choice_is i d (omega arith) in let y = choice_is k d (omega arith) in
        rises about order lawful a r good p (s + i) (s + k) n m (omega arith) (omega arith)
        (ap (λ (z : Chosen). z.choice.lane) (sym x) ∙ (same ∙ ap (λ (z : Chosen). z.choice.lane) y))
        (ap (position acc) (sym x) ∙ at) (ap (position acc) (sym y) ∙ at')

    ruled : (i k : ℕ) (d : Chosen) → i < length cs → (slice_index_or cs i d).choice.class ≡ Some k
        → IsRuledAt about.start acc (gone_at i) (take i cs) k (slice_index_or cs i d)
    ruled i k d inside has =
        let e = long in let b = since in
        let x = choice_is i d (omega arith) in
        let l : s + i < a.placed p = omega arith in
        let mine : (c (s + i)).choice.class ≡ Some k = ap (λ (z : Chosen). z.choice.class) (sym x)
        ∙ has in
        let is = class_of (s + i) k l mine in
        subst (λ (z : ℕ × (List Chosen × Chosen)). IsRuledAt about.start acc (gone z.0) z.1.0 k
        z.1.1) (λ v. (
          sym (at_walk_is i (omega arith)) v,
          (sym (before_is i (omega arith)) v, sym x v),
        )) (at_choice (s + i) k l is)

    is_walk : IsWalk about.start acc gone_at cs
    is_walk = record {
      start_small = fit.start;
      few = accepted_fits;
      few_retired = λ i l. retired_fits (a.put p (at_walk i)) l;
      rising = gone_rises;
      in_order = in_order;
      ruled = ruled;
    }

    -- of two choices of one class, the earlier packet was retired before the later put, or the
    -- lanes are one
    walked : (i k n : ℕ) → s ≤ i → i < j → IsAt i n → class i ≡ Some k → class j ≡ Some k
        → (n ≤ gone j (lane i)) ⊎ (lane i ≡ lane j)
    walked i k n from less at is is' =
        let e = long in
        let x : slice_index_or cs (i - s) nobody ≡ c i = choice_is (i - s) nobody (omega arith)
        ∙ ap c (omega arith) in
        let y : slice_index_or cs (j - s) nobody ≡ c j = choice_is (j - s) nobody (omega arith)
        ∙ ap c (omega arith) in
        let last : at_walk (j - s) ≡ j = at_walk_is (j - s) (omega arith) ∙ omega arith in
        elim (walk_keeps_order about.start acc gone_at cs is_walk (i - s) (j - s) k n nobody
        (omega arith) (omega arith)
        (ap (λ (z : Chosen). z.choice.class) x ∙ has_class i k (omega arith) is)
        (ap (λ (z : Chosen). z.choice.class) y ∙ has_class j k placed is')
        (ap (position acc) x ∙ at)) [
          | inl passed_ ↦ inl (subst (λ (z : ℕ × Chosen). n ≤ gone z.0 z.1.choice.lane)
              (λ v. (last v, x v)) passed_)
          | inr same ↦ inr (ap (λ (z : Chosen). z.choice.lane) (sym x)
              ∙ (same ∙ ap (λ (z : Chosen). z.choice.lane) y))
        ]

    walked_since : (i k n : ℕ) → since_resize size j ≤ i → i < j → IsAt i n → class i ≡ Some k
        → class j ≡ Some k → (n ≤ gone j (lane i)) ⊎ (lane i ≡ lane j)
    unfolding s
    walked_since i k n from less at is is' = walked i k n from less at is is'

  -- ---- two choices of one flow

  abbrev Passed : ℕ → ℕ → ℕ → Type 0
  Passed i j n = (n ≤ gone j (lane i)) ⊎ (lane i ≡ lane j)

  by_class : (i j n : ℕ) → i < j → (l : j < a.placed p) → IsAt i n
      → flow_at about order a r p i ≡ flow_at about order a r p j → since_resize size j ≤ i
      → (x : Option ℕ) → class i ≡ x → class j ≡ x → Passed i j n
  by_class i j n lt l at flow since_ (Some k) is is' = walked_since j l i k n since_ lt at is is'
  by_class i j n lt l at flow since_ None is is' =
      let f : ℕ = flow_at about order a r p i in
      let mine = plain_lane i (omega arith) is in
      let theirs = plain_lane j l is' in
      elim (cases_eq (lane i) (lane j)) [
        | inl e ↦ inr e
        | inr ne ↦ inl (empties about order fit lawful a r good p i i j n
            (λ z. r.plain z p f == lane i) (omega arith) lt l
            (eq-eqb (r.plain (settings_at about order a r p i) p f) (lane i) (sym mine))
            (ne_eqb (r.plain (settings_at about order a r p j) p f) (lane i)
            (λ e. ne (sym e ∙ (ap (r.plain (settings_at about order a r p j) p) flow
            ∙ sym theirs)))) (λ z w v yes_ no_.
            let is_a : r.plain z p f ≡ lane i = eqb-true (r.plain z p f) (lane i) yes_ in
            subst (λ (y : ℕ). r.affects z w v y ≡ true) is_a (steers.moves z w v p f
            (λ e. true≢false (sym (eq-eqb (r.plain (with_setting z w v) p f) (lane i)
            (sym e ∙ is_a)) ∙ no_)))) at)
      ]

  pub passed : (i j n : ℕ) → i < j → j < a.placed p → IsAt i n
      → flow_at about order a r p i ≡ flow_at about order a r p j → Passed i j n
  passed i j n lt l at flow =
      let last = since_is_last_change size j in
      elim (cases_lt i (since_resize size j)) [
        | inr since_ ↦ by_class i j n lt l at flow since_ (class i) refl
            (ap (λ z. r.class z (flow_at about order a r p j)) (sym (last.1 i since_ (omega arith)))
            ∙ ap (r.class (size i)) (sym flow))
        | inl resized ↦ (
            let cut = last.2 i resized in
            let k : ℕ = cut.0 in
            let le = cut.1 in let kj = cut.2 in
            let gone_ = empties about order fit lawful a r good p i k (suc k) n
            (λ z. r.shape z p == size k) cut.1 (omega arith) (omega arith)
            (eq-eqb (size k) (size k) refl) (ne_eqb (size (suc k)) (size k) (λ e. cut.3 (sym e)))
            (λ z w v yes_ no_.
            let is_k : r.shape z p ≡ size k = eqb-true (r.shape z p) (size k) yes_ in
            steers.resizes z w v p (lane i) (in_range about order lawful a r good p i (omega arith))
            (λ e. true≢false (sym (eq-eqb (r.shape (with_setting z w v) p) (size k) (sym e ∙ is_k))
            ∙ no_))) at in inl (up_to (suc k) gone_ kj))
      ] where
        up_to : (k : ℕ) → n ≤ gone k (lane i) → k ≤ j → n ≤ gone j (lane i)
        up_to k gone_ le = elim (cases_eq k j) [
          | inl e ↦ subst (λ (z : ℕ). n ≤ gone z (lane i)) e gone_
          | inr ne ↦ (
              let rise = puts_rise about order lawful a r good p k j (omega arith) l in
              let up = retired_later about order (a.put p k) (a.put p j) (lane i) (omega arith) in
              omega arith)
        ]
