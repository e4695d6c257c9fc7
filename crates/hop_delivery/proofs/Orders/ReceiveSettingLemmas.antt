-- The settings of a receive board steer as the law of delivery in order asks.
use Rattle.std.proofs.lemmas.Bool.{ne_eqb, ltb-true, lt-ltb, and_from, or_left, or_right}
use Rattle.std.specs.Prelude.{◌==◌, ◌&&◌, ◌||◌}
use Rattle.steer_base.specs.{Choices.rps_choice_of, Choices.online_or, Sets.those_below}
use Rattle.steer_base.specs.{Sets.is_empty, Sets.at_hash, declared.cpu_mask.CpuMask.CpuMask}
use Rattle.hop_delivery.proofs.Names.{◌≡◌, ◌≢◌, ℕ, zero, suc, ◌+◌, ◌<◌, ◌≤◌, Bool, true, false, not}
use Rattle.hop_delivery.proofs.Names.{List, [], ◌∷◌, Option, Some, None, length, if◌then◌else◌, sym}
use Rattle.hop_delivery.proofs.Names.{refl, ap, ◌∙◌, arith, inl, inr, ◌⊎◌, nat_lt, slice_index}
use Rattle.hop_delivery.proofs.Names.{list_any, range_with_len, cases_Bool, cases_eq, true≢false}
use Rattle.hop_delivery.proofs.Names.{eq-eqb, has, with_setting, IsSteering, goal_of, Queues}
use Rattle.hop_delivery.proofs.Names.{online_word, receive_steering}
use Rattle.hop_delivery.proofs.Orders.FilterLemmas.{any-member, both, get-of}
use Rattle.hop_delivery.specs.Orders.ReceiveSettings.{mask, queues, online, rps, came_on}
use Rattle.hop_delivery.specs.Orders.ReceiveSettings.{empty_for_mask, must_be_empty, GoalsAreOnline}

any-in : (test : ℕ → Bool) (a n c : ℕ) → a ≤ c → c < a + n → test c ≡ true
    → list_any test (range_with_len a n) ≡ true
any-in test a zero c from to e = absurd (omega arith)
any-in test a (suc n) c from to e = elim (cases_eq c a) [
  | inl is ↦ or_left (test a) _ (ap test (sym is) ∙ e)
  | inr ne ↦ or_right (test a) _ (any-in test (a + 1) n c (omega arith) (omega arith) e)
]

-- a processor of a mask is below 32
has-few : (m : CpuMask) (c : ℕ) → has m c ≡ true → c < 32
has-few m c e = ltb-true c 32 (both (nat_lt c 32) _ e).0

-- a choice that changes with the online mask goes away from one that goes offline, or from the home
-- as one comes online
moved : (cpu home : ℕ) (old new : CpuMask) → online_or old cpu home ≢ online_or new cpu home
    → ((online_or old cpu home ≡ cpu) × (has old cpu ≡ true) × (has new cpu ≡ false)) ⊎
    ((online_or old cpu home ≡ home) × (has old cpu ≡ false) × (has new cpu ≡ true))
moved cpu home old new ne = elim (cases_Bool (has old cpu)) [
  | inl a ↦ elim (cases_Bool (has new cpu)) [
    | inl b ↦ absurd (ne (rw (a, b) refl))
    | inr b ↦ inl (rw a refl, a, b)
  ]
  | inr a ↦ elim (cases_Bool (has new cpu)) [
    | inl b ↦ inr (rw a refl, a, b)
    | inr b ↦ absurd (ne (rw (a, b) refl))
  ]
]

-- one of two processors that is online
either_online : (on : CpuMask) (cpu other : ℕ) → has on other ≡ true
    → has on (online_or on cpu other) ≡ true
either_online on cpu other is = elim (cases_Bool (has on cpu)) [
  | inl e ↦ rw e e
  | inr e ↦ rw e is
]

module _ (q : Queues) where
  abbrev Q : ℕ
  Q = queues q

  abbrev W : ℕ
  W = online_word q

  other_word : (s : ℕ → ℕ) (w v i : ℕ) → w ≢ i → with_setting s w v i ≡ s i
  other_word s w v i ne = ap (λ b. if b then v else s i) (ne_eqb w i ne)

  same_word : (s : ℕ → ℕ) (w v i : ℕ) → w ≡ i → with_setting s w v i ≡ v
  same_word s w v i e = ap (λ b. if b then v else s i) (eq-eqb w i e)

  off : (s : ℕ → ℕ) (w v l : ℕ) → has (online q s) l ≡ true → has (online q (with_setting s w v)) l
      ≡ false → must_be_empty q s w v l ≡ true
  off s w v l on gone = elim (cases_eq w W) [
    | inl e ↦ (
        let new : has (mask v) l ≡ false = sym (ap (λ n. has (mask n) l) (same_word s w v W e))
        ∙ gone in
        ap (λ b. if b then empty_for_mask q (online q s) (mask v) l else true) (eq-eqb w W e)
        ∙ or_left (has (online q s) l && not (has (mask v) l)) _
        (and_from (has (online q s) l) (not (has (mask v) l)) on (ap not new)))
    | inr ne ↦ ap (λ b. if b then empty_for_mask q (online q s) (mask v) l else true)
        (ne_eqb w W ne)
  ]

  -- the choice of a queue, as the online mask changes
  by_mask : (s : ℕ → ℕ) (v p l : ℕ) (m : CpuMask) (hash : Option ℕ) → p < Q → rps_choice_of m hash
      (online q s) (slice_index q.homes p) ≢ rps_choice_of m hash (mask v) (slice_index q.homes p)
      → rps_choice_of m hash (online q s) (slice_index q.homes p) ≡ l
      → (empty_for_mask q (online q s) (mask v) l) ≡ true
  by_mask s v p l m None few ne is = absurd (ne refl)
  by_mask s v p l m (Some h) few ne is = elim (cases_Bool (is_empty (those_below 32 (has m)))) [
    | inl e ↦ absurd (ne (ap (λ b. if b then slice_index q.homes p else online_or (online q s)
        (at_hash (those_below 32 (has m)) h) (slice_index q.homes p)) e
        ∙ sym (ap (λ b. if b then slice_index q.homes p else online_or (mask v)
        (at_hash (those_below 32 (has m)) h) (slice_index q.homes p)) e)))
    | inr e ↦ (
        let cpu : ℕ = at_hash (those_below 32 (has m)) h in
        let home : ℕ = slice_index q.homes p in
        let old : rps_choice_of m (Some h) (online q s) home ≡ online_or (online q s) cpu home =
        ap (λ b. if b then home else online_or (online q s) cpu home) e in
        let new : rps_choice_of m (Some h) (mask v) home ≡ online_or (mask v) cpu home =
        ap (λ b. if b then home else online_or (mask v) cpu home) e in
        elim (moved cpu home (online q s) (mask v) (λ same. ne (old ∙ (same ∙ sym new)))) [
          | inl a ↦ (
              let l_is : l ≡ cpu = sym is ∙ (old ∙ a.0) in
              or_left (has (online q s) l && not (has (mask v) l))
              (list_any (λ home. home == l) q.homes && came_on q (online q s) (mask v))
              (and_from (has (online q s) l) (not (has (mask v) l))
              (ap (has (online q s)) l_is ∙ a.1) (ap not (ap (has (mask v)) l_is ∙ a.2))))
          | inr a ↦ (
              let l_is : home ≡ l = sym (old ∙ a.0) ∙ is in
              or_right (has (online q s) l && not (has (mask v) l))
              (list_any (λ home. home == l) q.homes && came_on q (online q s) (mask v))
              (and_from (list_any (λ home. home == l) q.homes) (came_on q (online q s) (mask v))
              (any-member (λ home. home == l) q.homes p home (get-of q.homes p few)
              (eq-eqb home l l_is))
              (any-in (λ c. not (has (online q s) c) && has (mask v) c) 0 32 cpu (omega arith)
              (has-few (mask v) cpu a.2)
              (and_from (not (has (online q s) cpu)) (has (mask v) cpu) (ap not a.1) a.2))))
        ])
  ]

  moves : (s : ℕ → ℕ) (w v p f : ℕ) → rps q s p f ≢ rps q (with_setting s w v) p f
      → must_be_empty q s w v (rps q s p f) ≡ true
  moves s w v p f ne = elim (cases_eq w W) [
    | inr other ↦ ap (λ b. if b then empty_for_mask q (online q s) (mask v) (rps q s p f) else true)
        (ne_eqb w W other)
    | inl e ↦ elim (cases_Bool (nat_lt p Q)) [
      | inr out ↦ absurd (ne (ap (λ b. if b then rps_choice_of (mask (s p)) (q.hash f) (online q s)
          (slice_index q.homes p) else 0) out
          ∙ sym (ap (λ b. if b then rps_choice_of (mask (with_setting s w v p)) (q.hash f)
          (online q (with_setting s w v)) (slice_index q.homes p) else 0) out)))
      | inl in_ ↦ (
          let few : p < Q = ltb-true p Q in_ in
          let l : ℕ = rps q s p f in
          let old : l ≡ rps_choice_of (mask (s p)) (q.hash f) (online q s) (slice_index q.homes p) =
          ap (λ b. if b then rps_choice_of (mask (s p)) (q.hash f) (online q s)
          (slice_index q.homes p) else 0) in_ in
          let apart : w ≢ p = λ h. absurd (omega arith) in
          let new : rps q (with_setting s w v) p f ≡ rps_choice_of (mask (s p)) (q.hash f) (mask v)
          (slice_index q.homes p) =
          ap (λ b. if b then rps_choice_of (mask (with_setting s w v p)) (q.hash f)
          (online q (with_setting s w v)) (slice_index q.homes p) else 0) in_
          ∙ (λ i. rps_choice_of (mask (other_word s w v p apart i)) (q.hash f)
          (mask (same_word s w v W e i)) (slice_index q.homes p)) in
          ap (λ b. if b then empty_for_mask q (online q s) (mask v) l else true) (eq-eqb w W e)
          ∙ by_mask s v p l (mask (s p)) (q.hash f) few (λ same. ne (old ∙ (same ∙ sym new)))
          (sym old))
    ]
  ]

  resizes : (s : ℕ → ℕ) (w v p l : ℕ) → (receive_steering q).shape s p ≢ (receive_steering q).shape
      (with_setting s w v) p → must_be_empty q s w v l ≡ true
  resizes s w v p l ne = elim (cases_eq w W) [
    | inr other ↦ ap (λ b. if b then empty_for_mask q (online q s) (mask v) l else true)
        (ne_eqb w W other)
    | inl e ↦ elim (cases_Bool (nat_lt p Q)) [
      | inr out ↦ absurd (ne (ap (λ b. if b then s (Q + p) else 0) out
          ∙ sym (ap (λ b. if b then with_setting s w v (Q + p) else 0) out)))
      | inl in_ ↦ (let few : p < Q = ltb-true p Q in_ in
          absurd (ne (ap (λ b. if b then s (Q + p) else 0) in_
          ∙ (sym (other_word s w v (Q + p) (λ h. absurd (omega arith)))
          ∙ sym (ap (λ b. if b then with_setting s w v (Q + p) else 0) in_)))))
    ]
  ]

  pub receive_steers : (lanes : ℕ) → IsSteering lanes (receive_steering q)
  receive_steers lanes = record {
    off = λ s w v l less on gone. off s w v l on gone;
    moves = λ s w v p f ne. moves s w v p f ne;
    resizes = λ s w v p l less ne. resizes s w v p l ne;
  }

  -- ---- goals

  choice_online : (m on : CpuMask) (hash : Option ℕ) (home : ℕ) → has on home ≡ true
      → has on (rps_choice_of m hash on home) ≡ true
  choice_online m on None home is = is
  choice_online m on (Some h) home is = by_empty (is_empty (those_below 32 (has m))) where
    cpu : ℕ
    cpu = at_hash (those_below 32 (has m)) h

    by_empty : (b : Bool) → has on (if b then home else online_or on cpu home) ≡ true
    by_empty true = is
    by_empty false = either_online on cpu home is

  pub goals_online : (s : ℕ → ℕ) (p f : ℕ) (class want : Option ℕ) → p < Q → has (online q s)
      (slice_index q.homes p) ≡ true → has (online q s)
      (goal_of (receive_steering q) s p f class want) ≡ true
  goals_online s p f class want few home = by_class class want where
    plain : has (online q s) (rps q s p f) ≡ true
    plain = ap (λ b. has (online q s)
        (if b then rps_choice_of (mask (s p)) (q.hash f) (online q s) (slice_index q.homes p) else
        0)) (lt-ltb p Q few) ∙ choice_online (mask (s p)) (online q s) (q.hash f)
        (slice_index q.homes p) home

    by_class : (class want : Option ℕ) → has (online q s)
        (goal_of (receive_steering q) s p f class want) ≡ true
    by_class None want = plain
    by_class (Some k) None = plain
    by_class (Some k) (Some cpu) = either_online (online q s) cpu (rps q s p f) plain

pub goals_are_online : GoalsAreOnline
goals_are_online q s p f class want few home = goals_online q s p f class want few home
