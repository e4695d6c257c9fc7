-- What producers did, by the moments of an order: the form of the premises from which the law is
-- proved; the puts of such an account, where its packets stand, and what a setting found empty.
use Rattle.std.specs.Option.{option_map}
use Rattle.steer_base.{proofs.EntriesLemmas.place_in-le, specs.Entries.place_in}
use Rattle.hop_model.specs.Hop.{chosen_at}
use Rattle.hop_rule.proofs.Boards.{gates_past, retired_later}
use Rattle.hop_rule.proofs.{EarlyFirst.emptied, Gates.unshut, Moments.past-all, Moments.one-step}
use Rattle.hop_rule.proofs.Puts.{was_put, put_stands, put_counts}
use Rattle.hop_rule.proofs.Visits.{set_between, inside_at, closed_at}
use Rattle.hop_rule.specs.{Boards.retired, Boards.gates_of, Emptied.WasEmptied, PutLaws.IsDelivery}
use Rattle.hop_rule.specs.{PutLaws.lane_then, declared.step.Change.Change}
use Rattle.hop_rule.specs.declared.step.GateStep.{GateStep, TheVariants.Shut, TheVariants.Opened}
use Rattle.hop_delivery.proofs.Names.{◌≡◌, ℕ, suc, ◌%◌, ◌^◌, ◌<◌, ◌≤◌, true, List, Option, Some}
use Rattle.hop_delivery.proofs.Names.{length, take, drop, slice_get, migrate, entry, of_class}
use Rattle.hop_delivery.proofs.Names.{current_lane, position, Chosen, Put, since_resize, StepBy}
use Rattle.hop_delivery.proofs.Names.{accepted, settings, past, IsStep, IsPut, closer, BoardSizes}
use Rattle.hop_delivery.proofs.Names.{BoardStep, Gate, Weighed, Entered, Left, Set, Steering}
use Rattle.hop_delivery.proofs.Names.{goal_of, ◌≢◌, inl, inr, zero, ◌-◌, [], ◌∷◌, sym, refl, ap}
use Rattle.hop_delivery.proofs.Names.{◌∙◌, subst, arith, None, cases_eq, dite, ℕ_discrete}
use Rattle.hop_delivery.proofs.Names.{lane_drop_cause, if_same, if_other, IsLawful, Lane, Offered}
use Rattle.hop_delivery.proofs.Names.{LaneStep, Freed, step_lawful, some-is, none-some, step-inside}
use Rattle.hop_delivery.proofs.Names.{Bool, false, cases_lt, with_setting, FitSizes}
use Rattle.hop_rule.specs.Boards as boards

-- Of each producer: its arrivals and choices, how many of these were put and by which seat, and of
-- the i-th choice the moments of the entry of its visit and of its put.
pub record Account : Type 0 where
  pub arrivals : ℕ → List ℕ
  pub choices : ℕ → List Chosen
  pub placed : ℕ → ℕ
  pub seat : ℕ → ℕ
  pub entered : ℕ → ℕ → ℕ
  pub put : ℕ → ℕ → ℕ

-- the i-th choice of a producer, and its lane
abbrev pub chosen : Account → ℕ → ℕ → Chosen
chosen a p i = chosen_at (a.choices p) i

abbrev pub lane_chosen : Account → ℕ → ℕ → ℕ
lane_chosen a p i = (chosen a p i).choice.lane

module _ (about : BoardSizes) (order : List (StepBy BoardStep)) (a : Account) (r : Steering) where
  abbrev pub settings_at : ℕ → ℕ → ℕ → ℕ
  settings_at p i = settings about (past (a.entered p i) order)

  abbrev pub shape_at : ℕ → ℕ → ℕ
  shape_at p i = r.shape (settings_at p i) p

  abbrev pub flow_at : ℕ → ℕ → ℕ
  flow_at p i = r.flow (chosen a p i).id

  abbrev pub class_at : ℕ → ℕ → Option ℕ
  class_at p i = r.class (shape_at p i) (flow_at p i)

  abbrev pub goal_at : ℕ → ℕ → ℕ
  goal_at p i = goal_of r (settings_at p i) p (flow_at p i) (class_at p i)
      (chosen a p i).choice.want

  abbrev pub before : ℕ → ℕ → List Chosen
  before p i = drop (since_resize (shape_at p) i) (take i (a.choices p))

  -- the count at which the packet of a choice was accepted by its lane
  abbrev pub At : ℕ → ℕ → ℕ → Type 0
  At p i n = position (accepted about order) (chosen a p i) ≡ Some n

  -- how many packets of a lane were retired by the put of a choice
  abbrev pub retired_at : ℕ → ℕ → ℕ → ℕ
  retired_at p i l = retired about (past (a.put p i) order) l

  -- the visit of a choice, and its put in it
  pub record HasVisit (p i : ℕ) : Type 0 where
    pub word : ℕ
    pub enters : IsStep order (a.entered p i) (a.seat p) (Gate (Entered word))
    pub hash : Option ℕ
    pub answer : Put
    pub puts : IsPut about order (a.put p i) (a.seat p) (lane_chosen a p i) (chosen a p i).id hash
        answer
    pub after : a.entered p i < a.put p i
    pub stays : (m : ℕ) → a.entered p i < m → m < a.put p i → IsStep order m (a.seat p) (Gate Left)
        → ⊥

  -- the seat loaded the head of the lane l in the visit of a choice, and it showed this number
  pub record WasLoaded (p i l number : ℕ) : Type 0 where
    pub moment : ℕ
    pub word : ℕ
    pub before : moment < a.put p i
    pub weighs : IsStep order moment (a.seat p) (Weighed l word)
    pub shows : word % 2 ^ 32 ≡ number

  -- the choice is by the rule, with the settings at its entry
  pub record IsRuled (p i : ℕ) : Type 0 where
    pub head : ℕ
    pub rule : (chosen a p i).choice
        ≡ migrate (class_at p i) (chosen a p i).choice.want (goal_at p i)
        (entry about.start (accepted about order) (before p i)) (λ _. head)
        (r.online (settings_at p i))
    pub loaded : (k l : ℕ) → class_at p i ≡ Some k → current_lane (of_class k (before p i)) ≡ Some l
        → (chosen a p i).choice.head ≡ Some head → WasLoaded p i l head
    pub goal_online : r.online (settings_at p i) (goal_at p i) ≡ true

  -- the premises
  pub record IsAccount : Type 0 where
    pub once : (p q i j x : ℕ) → slice_get (a.arrivals p) i ≡ Some x
        → slice_get (a.arrivals q) j ≡ Some x → (p ≡ q) × (i ≡ j)
    pub arrived : (p i : ℕ) → i < a.placed p → slice_get (a.arrivals p) i ≡ Some (chosen a p i).id
    pub few : (p : ℕ) → a.placed p ≤ length (a.choices p)
    pub visits : (p i : ℕ) → i < a.placed p → HasVisit p i
    pub in_order : (p i : ℕ) → suc i < a.placed p → a.put p i < a.entered p (suc i)
    pub all_puts : (n q l id : ℕ) (hash : Option ℕ) (answer : Put) → IsPut about order n q l id hash
        answer → (p : ℕ) × (i : ℕ) × (i < a.placed p) × (a.put p i ≡ n)
    pub given : (n q o from id place : ℕ) → IsDelivery about order n q o from id place
        → o ≡ r.to (r.flow id)
    pub by_rule : (p i : ℕ) → i < a.placed p → IsRuled p i
    pub emptied : (n w v l : ℕ) → IsStep order n (closer about) (Gate (Set w v)) → l < about.lanes
        → r.affects (settings about (past n order)) w v l ≡ true → WasEmptied about order n l

-- ---- puts and places

-- ---- where a packet stands in a list

place-rest : (x y n : ℕ) (ys : List ℕ) (o : Option ℕ) → place_in x ys ≡ o
    → ((m : ℕ) → place_in x ys ≡ Some m → slice_get ys (m - 1) ≡ Some x) → option_map suc o ≡ Some n
    → slice_get (y ∷ ys) (n - 1) ≡ Some x
place-rest x y n ys None is rest f = none-some n f
place-rest x y n ys (Some m) is rest f =
    let g : suc m ≡ n = some-is (suc m) n f in let pos = (place_in-le x ys m is).0 in
    let k : n - 1 ≡ suc (m - 1) = omega arith in ap (slice_get (y ∷ ys)) k ∙ rest m is

pub place-get : (x n : ℕ) (xs : List ℕ) → place_in x xs ≡ Some n → slice_get xs (n - 1) ≡ Some x
place-get x n [] e = none-some n e
place-get x n (y ∷ ys) e = dite (ℕ_discrete x y)
    (λ is. let f : Some 1 ≡ Some n = sym (if_same x y (Some 1) (option_map suc (place_in x ys)) is)
    ∙ e in let g : 1 ≡ n = some-is 1 n f in
    let k : n - 1 ≡ 0 = omega arith in ap (slice_get (y ∷ ys)) k ∙ ap Some (sym is))
    (λ ne. place-rest x y n ys (place_in x ys) refl (λ m at. place-get x m ys at)
    (sym (if_other x y (Some 1) (option_map suc (place_in x ys)) ne) ∙ e))

-- a place in a list that has the packet once
place-at : (xs : List ℕ) (j x : ℕ) → slice_get xs j ≡ Some x
    → ((i : ℕ) → slice_get xs i ≡ Some x → i ≡ j) → place_in x xs ≡ Some (suc j)
place-at [] j x at one = none-some x at
place-at (y ∷ ys) zero x at one = if_same x y (Some 1) (option_map suc (place_in x ys))
    (sym (some-is y x at))
place-at (y ∷ ys) (suc j) x at one =
    let ne : x ≢ y = λ e. let z : 0 ≡ suc j = one 0 (ap Some (sym e)) in absurd (omega arith) in
    if_other x y (Some 1) (option_map suc (place_in x ys)) ne ∙ ap (option_map suc)
    (place-at ys j x at (λ i a. let z : suc i ≡ suc j = one (suc i) a in omega arith))

-- ---- the packet and the lane of a put

id_in : Change → ℕ
id_in (Offered x h a) = x
id_in _ = 0

id_in_lane : LaneStep → ℕ
id_in_lane (Freed i x) = id_in x
id_in_lane _ = 0

id_of : BoardStep → ℕ
id_of (Lane d) = id_in_lane d
id_of _ = 0

lane_in : LaneStep → ℕ
lane_in (Freed i x) = i
lane_in _ = 0

lane_of : BoardStep → ℕ
lane_of (Lane d) = lane_in d
lane_of _ = 0

hash_in : Change → Option ℕ
hash_in (Offered x h a) = h
hash_in _ = None

hash_in_lane : LaneStep → Option ℕ
hash_in_lane (Freed i x) = hash_in x
hash_in_lane _ = None

hash_of : BoardStep → Option ℕ
hash_of (Lane d) = hash_in_lane d
hash_of _ = None

abbrev put_of : ℕ → ℕ → Option ℕ → Put → BoardStep
put_of l id hash answer = Lane (Freed l (Offered id hash answer))

-- two puts of one moment are one
pub same_put : (about : BoardSizes) (order : List (StepBy BoardStep)) (n p q k l x y : ℕ)
    (h g : Option ℕ) (a b : Put) → IsPut about order n p k x h a → IsPut about order n q l y g b
    → (k ≡ l) × (x ≡ y) × (h ≡ g)
unfolding lane_of lane_in id_of id_in_lane id_in hash_of hash_in_lane hash_in
same_put about order n p q k l x y h g a b is is' =
    let same = (one-step order n p q (put_of k x h a) (put_of l y g b) is is').1 in
    (ap lane_of same, ap id_of same, ap hash_of same)

module _ (about : BoardSizes) (order : List (StepBy BoardStep)) (lawful : IsLawful about order)
    (a : Account) (r : Steering) (good : IsAccount about order a r) where
  abbrev c : ℕ → ℕ → Chosen
  c p i = chosen a p i

  abbrev acc : ℕ → List ℕ
  acc = accepted about order

  whole : past (length order) order ≡ order
  whole = past-all order (length order) (omega arith)

  -- ---- puts rise

  pub put_before : (p i j : ℕ) → i < j → j < a.placed p → a.put p i < a.entered p j
  put_before p i zero l k = absurd (omega arith)
  put_before p i (suc j) l k = elim (cases_eq i j) [
    | inl e ↦ subst (λ (z : ℕ). a.put p z < a.entered p (suc j)) (sym e) (good.in_order p j k)
    | inr ne ↦ (
        let b = put_before p i j (omega arith) (omega arith) in
        let v = (good.visits p j (omega arith)).after in
        let d = good.in_order p j k in omega arith)
  ]

  pub puts_rise : (p i j : ℕ) → i < j → j < a.placed p → a.put p i < a.put p j
  puts_rise p i j l k = let b = put_before p i j l k in let v = (good.visits p j k).after in
      omega arith

  -- ---- each put is that of a choice

  pub record PutIs (u l id : ℕ) : Type 0 where
    pub producer : ℕ
    pub index : ℕ
    pub placed : index < a.placed producer
    pub moment : a.put producer index ≡ u
    pub same_id : (c producer index).id ≡ id
    pub same_lane : lane_chosen a producer index ≡ l

  pub put_is : (u q l id : ℕ) (hash : Option ℕ) (answer : Put) → IsPut about order u q l id hash
      answer → PutIs u l id
  put_is u q l id hash answer is =
      let b = good.all_puts u q l id hash answer is in
      let v = good.visits b.0 b.1 b.2 in
      let mine : IsPut about order u (a.seat b.0) (lane_chosen a b.0 b.1) (c b.0 b.1).id v.hash
      v.answer = subst (λ (z : ℕ). IsPut about order z (a.seat b.0) (lane_chosen a b.0 b.1)
      (c b.0 b.1).id v.hash v.answer) b.3 v.puts in
      let same = same_put about order u (a.seat b.0) q (lane_chosen a b.0 b.1) l (c b.0 b.1).id id
      v.hash hash v.answer answer mine is in
      record {
        producer = b.0;
        index = b.1;
        placed = b.2;
        moment = b.3;
        same_id = same.1;
        same_lane = same.0;
      }

  -- two choices of one packet are one
  pub once : (p q i j : ℕ) → i < a.placed p → j < a.placed q → (c p i).id ≡ (c q j).id → (p ≡ q)
      × (i ≡ j)
  once p q i j ip jq same = good.once p q i j (c q j).id (good.arrived p i ip ∙ ap Some same)
      (good.arrived q j jq)

  -- a put of the packet of a choice is the put of the choice
  pub own_put : (p i u q l : ℕ) (hash : Option ℕ) (answer : Put) → i < a.placed p
      → IsPut about order u q l (c p i).id hash answer → (a.put p i ≡ u) × (lane_chosen a p i ≡ l)
  own_put p i u q l hash answer ip is =
      let b = put_is u q l (c p i).id hash answer is in
      let same = once b.producer p b.index i b.placed ip b.same_id in (
        (λ k. a.put (sym same.0 k) (sym same.1 k)) ∙ b.moment,
        (λ k. lane_chosen a (sym same.0 k) (sym same.1 k)) ∙ b.same_lane,
      )

  -- ---- accepted packets

  abbrev pub found_at : ℕ → ℕ → ℕ
  found_at p i = length (lane_then about order (a.put p i) (lane_chosen a p i)).accepted

  -- a choice whose packet stands in its lane at the count n was accepted by its put, which found
  -- one less
  pub record Accepted (p i n : ℕ) : Type 0 where
    pub seat : ℕ
    pub hash : Option ℕ
    pub answer : Put
    pub is : IsPut about order (a.put p i) seat (lane_chosen a p i) (c p i).id hash answer
    pub cause : lane_drop_cause (lane_then about order (a.put p i) (lane_chosen a p i)) hash ≡ None
    pub found : n ≡ suc (found_at p i)

  pub at_put : (p i n : ℕ) → i < a.placed p → At about order a r p i n → Accepted p i n
  at_put p i n ip at =
      let l : ℕ = lane_chosen a p i in
      let stands = place-get (c p i).id n (acc l) at in
      let pos = (place_in-le (c p i).id (acc l) n at).0 in
      let u = was_put about order lawful l (n - 1) (c p i).id stands in
      let own = (own_put p i u.moment u.seat l u.hash u.answer ip u.is).0 in
      let f = u.found in
      let here : found_at p i ≡ length (lane_then about order u.moment l).accepted =
      ap (λ z. length (lane_then about order z l).accepted) own in
      record {
        seat = u.seat;
        hash = u.hash;
        answer = u.answer;
        is = subst (λ (z : ℕ). IsPut about order z u.seat l (c p i).id u.hash u.answer)
            (sym own) u.is;
        cause = ap (λ (z : ℕ). lane_drop_cause (lane_then about order z l) u.hash) own ∙ u.cause;
        found = omega arith;
      }

  pub put_at : (p i q : ℕ) (hash : Option ℕ) (answer : Put) → i < a.placed p → IsPut about order
      (a.put p i) q (lane_chosen a p i) (c p i).id hash answer
      → lane_drop_cause (lane_then about order (a.put p i) (lane_chosen a p i)) hash ≡ None
      → At about order a r p i (suc (found_at p i))
  put_at p i q hash answer ip is none =
      let l : ℕ = lane_chosen a p i in
      let inside = step-inside order (a.put p i) q (put_of l (c p i).id hash answer) is in
      let stands = put_stands about order lawful (a.put p i) q l (c p i).id hash answer is
      (length order) none inside in
      place-at (acc l) (found_at p i) (c p i).id
      (ap (λ es. slice_get (boards.lane_at about es l).accepted (found_at p i)) (sym whole)
      ∙ stands) (λ k at. let u = was_put about order lawful l k (c p i).id at in
      let own = (own_put p i u.moment u.seat l u.hash u.answer ip u.is).0 in
      sym (ap (λ (z : ℕ). length (lane_then about order z l).accepted) own ∙ u.found))

  -- an accepted packet counts right after its put
  pub counts : (p i n m : ℕ) → i < a.placed p → At about order a r p i n → a.put p i < m
      → n ≤ length (lane_then about order m (lane_chosen a p i)).accepted
  counts p i n m ip at less =
      let b = at_put p i n ip at in let f = b.found in
      let more = put_counts about order lawful (a.put p i) b.seat (lane_chosen a p i)
      (c p i).id b.hash b.answer b.is m b.cause less in omega arith

  pub in_range : (p i : ℕ) → i < a.placed p → lane_chosen a p i < about.lanes
  in_range p i ip = let v = good.visits p i ip in
      (step_lawful about order (a.put p i) (a.seat p)
      (put_of (lane_chosen a p i) (c p i).id v.hash v.answer) lawful v.puts).1.0.0

  pub rises : (p i j n m : ℕ) → i < j → j < a.placed p → lane_chosen a p i ≡ lane_chosen a p j
      → At about order a r p i n → At about order a r p j m → n < m
  rises p i j n m l jp same at at' =
      let f = (at_put p j m jp at').found in
      let b = counts p i n (a.put p j) (omega arith) at (puts_rise p i j l jp) in
      let b' : n ≤ found_at p j =
      subst (λ (z : ℕ). n ≤ length (lane_then about order (a.put p j) z).accepted) same b in
      omega arith

-- ---- steps of two kinds are two

is_gate : BoardStep → ℕ
is_gate (Gate d) = 1
is_gate _ = 0

is_entry : GateStep → ℕ
is_entry (Entered w) = 1
is_entry _ = 0

is_entry_at : BoardStep → ℕ
is_entry_at (Gate d) = is_entry d
is_entry_at _ = 0

lane_or_gate : {X : Type 0} (d : LaneStep) (g : GateStep) → Lane d ≡ Gate g → X
unfolding is_gate
lane_or_gate d g e = let k : is_gate (Lane d) ≡ is_gate (Gate g) = ap is_gate e in
    absurd (omega arith)

entry_or_set : {X : Type 0} (w x v : ℕ) → Gate (Entered w) ≡ Gate (Set x v) → X
unfolding is_entry_at is_entry
entry_or_set w x v e = let k : is_entry_at (Gate (Entered w)) ≡ is_entry_at (Gate (Set x v)) =
    ap is_entry_at e in absurd (omega arith)

module _ (about : BoardSizes) (order : List (StepBy BoardStep)) (fit : FitSizes about)
    (lawful : IsLawful about order) (a : Account) (r : Steering) (good : IsAccount about order a r)
  where
    -- what was put in a visit was put before a close that a later setting needs
    put_before_close : (p k s shut word : ℕ) → k < a.placed p → a.entered p k < s
        → IsStep order shut (closer about) (Gate (Shut word)) → shut < s
        → ((m : ℕ) → shut < m → m < s → IsStep order m (closer about) (Gate Opened) → ⊥)
        → a.put p k < shut
    put_before_close p k s shut word kp from shuts less stays =
        let v = good.visits p k kp in
        let u : ℕ = a.put p k in
        let q : ℕ = a.seat p in
        let d : BoardStep = Lane
        (Freed (lane_chosen a p k) (Offered (chosen a p k).id v.hash v.answer)) in
        let seat_in = (step_lawful about order u q d lawful v.puts).0 in
        let clash : (m : ℕ) → a.entered p k < m → m ≤ u → shut < m → m ≤ s → ⊥ = λ m b c d e.
        (let in_ = inside_at about order lawful q (a.entered p k) u v.word m v.enters v.stays b c in
        let shut_ = closed_at about order lawful shut s word m shuts stays d e in
        let open_ = unshut about (gates_of (past m order)) (gates_past about order m lawful) q
        seat_in in_ in
        absurd (omega arith)) in
        elim (cases_lt u shut) [
          | inl l ↦ l
          | inr ge ↦ elim (cases_eq u shut) [
            | inl e ↦ lane_or_gate _ _
                (one-step order u q (closer about) d (Gate (Shut word)) v.puts
                (subst (λ (z : ℕ). IsStep order z (closer about) (Gate (Shut word)))
                (sym e) shuts)).1
            | inr ne ↦ elim (cases_lt s u) [
              | inl l ↦ absurd (clash s from (omega arith) less (omega arith))
              | inr le ↦ absurd (clash u v.after (omega arith) (omega arith) le)
            ]
          ]
        ]

    -- Where a test of settings holds at the visit k and not at a later one, and each change by
    -- which
    -- it ends finds the
    -- lane of an earlier choice empty, that choice's packet was retired before the later
    -- visit's put.
    pub empties : (p i k j n : ℕ) (test : (ℕ → ℕ) → Bool) → i ≤ k → k < j → j < a.placed p
        → test (settings_at about order a r p k) ≡ true → test (settings_at about order a r p j) ≡
        false → ((s : ℕ → ℕ) (w v : ℕ) → test s ≡ true → test (with_setting s w v) ≡ false
        → r.affects s w v (lane_chosen a p i) ≡ true)
        → At about order a r p i n → n ≤ retired_at about order a r p j (lane_chosen a p i)
    empties p i k j n test le less jp yes_ no_ affects at =
        let ek : ℕ = a.entered p k in let ej : ℕ = a.entered p j in
        let l : ℕ = lane_chosen a p i in
        let rise = put_before about order lawful a r good p k j less jp in
        let vk = good.visits p k (omega arith) in
        let vk_after = vk.after in
        let vj_after = (good.visits p j jp).after in
        let f = set_between about order lawful test ek ej (omega arith) yes_ no_ in
        let s : ℕ = f.0 in let q : ℕ = f.1 in
        let from = f.4 in let to = f.5 in
        let by_closer : q ≡ closer about =
        (step_lawful about order s q (Gate (Set f.2 f.3)) lawful f.6).1.0 in
        let sets : IsStep order s (closer about) (Gate (Set f.2 f.3)) =
        subst (λ (z : ℕ). IsStep order s z (Gate (Set f.2 f.3))) by_closer f.6 in
        let apart : ek ≢ s = λ e. entry_or_set vk.word f.2 f.3
        (one-step order s (a.seat p) q (Gate (Entered vk.word)) (Gate (Set f.2 f.3))
        (subst (λ (z : ℕ). IsStep order z (a.seat p) (Gate (Entered vk.word))) e vk.enters) f.6).1
        in
        let w = good.emptied s f.2 f.3 l sets
        (in_range about order lawful a r good p i (omega arith))
        (affects (settings about (past s order)) f.2 f.3 f.7 f.8) in
        let after = w.after_shut in let after' = w.after_weighed in let before = w.before in
        let closed_before = put_before_close p k s w.shut w.word (omega arith) (omega arith) w.shuts
        (omega arith) w.stays in
        let earlier : a.put p i ≤ a.put p k = elim (cases_eq i k) [
          | inl e ↦ (let z : a.put p i ≡ a.put p k = ap (a.put p) e in omega arith)
          | inr ne ↦ (let z = puts_rise about order lawful a r good p i k (omega arith)
              (omega arith) in omega arith)
        ] in
        let lies = counts about order lawful a r good p i n w.counted (omega arith) at
        (omega arith) in
        let all_gone = emptied about order fit lawful s l w in
        let up = retired_later about order w.weighed (a.put p j) l (omega arith) in omega arith
