-- No event of a hop takes up a second packet before the first was put, and none loses an accepted
-- packet.
use Rattle.std.proofs.Common.{ℕ, ◌<◌, ◌≤◌, ◌≡◌, ◌⊎◌, ◌∙◌, sym, ap, refl, Bool, true, false, List}
use Rattle.std.proofs.Common.{[], ◌∷◌, ◌++◌}
use Rattle.std.proofs.Common.{Option, Some, None, length, subst, arith, inl, inr}
use Rattle.std.specs.Prelude.{◌-◌, ◌+◌, ◌==◌, if◌then◌else◌, is_some, nat_lt, not, slice_index_or}
use Rattle.std.specs.Prelude.{slice_set}
use Rattle.std.specs.Prelude.{suc, zero}
use Rattle.std.specs.Option.{option_map}
use Rattle.std.proofs.lemmas.Bool.{cases_eq, cases_lt, eq-eqb, ltb-false, ltb-true}
use Rattle.std.proofs.lemmas.List.{get_or-set_same, get_or-set_other, get_or_past, length-append}
use Rattle.std.proofs.lemmas.List.{length-set}
use Rattle.std.proofs.lemmas.Option.{unwrap_or-slice_get}
use Rattle.steer_base.specs.Drops.{bucket_of, lane_drop_cause}
use Rattle.steer_base.specs.Entries.{place_in}
use Rattle.steer_base.specs.declared.choice.Chosen.{Chosen}
use Rattle.steer_base.specs.declared.put.DropCause.{DropCause}
use Rattle.backlog.specs.Puts.{answer_by}
use Rattle.history.specs.Finding.{is_in}
use Rattle.hop_core.proofs.Leaves.{each_leaves}
use Rattle.hop_model.specs.declared.event.HopAnswer.TheVariants as answer
use Rattle.hop_model.specs.declared.event.HopEvent.{HopEvent}
use Rattle.hop_model.specs.declared.event.HopEvent.TheVariants as event
use Rattle.hop_model.specs.Events.{Outcome, happens}
use Rattle.hop_model.specs.Hop.{Bare, HopState, accepted_at, arrivals_of, choice_of, choices_of}
use Rattle.hop_model.specs.Hop.{chose, in_hand}
use Rattle.hop_model.specs.Hop.{inside_of, landed, lane_of, next_of, nobody, placed_of, put_one}
use Rattle.hop_model.specs.Hop.{taken_of, took}
use Rattle.hop_core.specs.Leaves.{Field, changes}
use Rattle.history.proofs.RegularLemmas.{is_in-append}
use Rattle.step_laws.specs.Origins.FilterOrigins.{HoldOne, WasAccepted}
use Rattle.steer_model.specs.State.Machine.{last_chosen}
use Rattle.steer_model.specs.Steps.Pollers.{put_position}

-- ---- lists

set-either : {A : Type 0} (xs : List A) (p r : ℕ) (v d : A)
    → (slice_index_or (slice_set xs p v) r d ≡ slice_index_or xs r d)
    ⊎ ((r ≡ p) × (slice_index_or (slice_set xs p v) r d ≡ v))
set-either xs p r v d =
    elim (cases_eq r p) [
      | inr other ↦ inl (get_or-set_other xs p r v d other)
      | inl same ↦ elim (cases_lt p (length xs)) [
        | inl within ↦
            inr (
              same,
              ap (λ k. slice_index_or (slice_set xs p v) k d) same
                  ∙ get_or-set_same xs p v d within,
            )
        | inr past ↦
            inl (get_or_past (slice_set xs p v) r d
            (subst (λ k. length (slice_set xs p v) ≤ k) (sym same)
            (subst (λ k. k ≤ p) (sym (length-set xs p v)) past))
            ∙ sym (get_or_past xs r d (subst (λ k. length xs ≤ k) (sym same) past)))
      ]
    ]

is_in-new : (x : ℕ) (xs : List ℕ) → is_in x (xs ++ x ∷ []) ≡ true
is_in-new x [] = rw (eq-eqb x x refl) refl
is_in-new x (y ∷ ys) = in-rest (x == y) (place_in x (ys ++ x ∷ [])) (is_in-new x ys)
  where
    in-rest : (b : Bool) (o : Option ℕ) → is_some o ≡ true
        → is_some (if b then Some 1 else option_map suc o) ≡ true
    in-rest true o there = refl
    in-rest false (Some k) there = refl
    in-rest false None there = there

list-keeps : (ls : List (List ℕ)) (a b x y : ℕ) → is_in y (slice_index_or ls b []) ≡ true
    → is_in y (slice_index_or (slice_set ls a (slice_index_or ls a [] ++ x ∷ [])) b []) ≡ true
list-keeps [] a b x y is = is
list-keeps (l ∷ ls) zero zero x y is = is_in-append y l (x ∷ []) is
list-keeps (l ∷ ls) zero (suc b) x y is = is
list-keeps (l ∷ ls) (suc a) zero x y is = is
list-keeps (l ∷ ls) (suc a) (suc b) x y is = list-keeps ls a b x y is

-- ---- what every event keeps

pub record HopGrows (s t : HopState) : Type 0 where
  pub accepted : (c : Chosen) → WasAccepted s c → WasAccepted t c
  pub hands : HoldOne s → HoldOne t

pub no-growth : (s : HopState) → HopGrows s s
no-growth s = record { accepted = λ c is. is; hands = λ h. h }

pub more-growth : (s t u : HopState) → HopGrows s t → HopGrows t u → HopGrows s u
more-growth s t u g h =
    record {
      accepted = λ c is. h.accepted c (g.accepted c is);
      hands = λ one. h.hands
          (g.hands one);
    }

grows-if : (s : HopState) (b : Bool) (x y : Outcome) → (b ≡ true → HopGrows s x.0)
    → (b ≡ false → HopGrows s y.0)
    → HopGrows s (if b then x else y).0
grows-if s true x y p q = p refl
grows-if s false x y p q = q refl

by-leaves : (s : HopState) (e : HopEvent) → changes e Field.accepted ≡ false
    → changes e Field.choices ≡ false
    → changes e Field.taken ≡ false → changes e Field.placed ≡ false → HopGrows s (happens s e).0
by-leaves s e a c t p =
    record {
      accepted = λ x is lt.
          ap (λ l. is_in x.id (slice_index_or l x.choice.lane [])) accepted
          ∙ is (subst (λ l. x.choice.lane < length l) accepted lt);
      hands = λ one r.
          let old = one r in (
            subst (λ n. length (choices_of (happens s e).0 r) ≤ n)
                (sym (ap (λ l. slice_index_or l r 0) taken))
                (subst (λ l. length (slice_index_or l r []) ≤ taken_of s r) (sym choices) old.0),
            subst (λ n. n ≤ placed_of (happens s e).0 r + 1)
                (sym (ap (λ l. slice_index_or l r 0) taken))
                (subst (λ l. taken_of s r ≤ slice_index_or l r 0 + 1) (sym placed) old.1),
          );
    }
  where
    accepted : (happens s e).0.bare.accepted ≡ s.bare.accepted
    accepted = each_leaves s e Field.accepted a

    choices : (happens s e).0.choices ≡ s.choices
    choices = each_leaves s e Field.choices c

    taken : (happens s e).0.taken ≡ s.taken
    taken = each_leaves s e Field.taken t

    placed : (happens s e).0.placed ≡ s.placed
    placed = each_leaves s e Field.placed p

grows-took : (s : HopState) (p : ℕ) → taken_of s p ≤ placed_of s p → HopGrows s (took s p)
grows-took s p low =
    record { accepted = λ c is. is; hands = hands }
  where
    hands : HoldOne s → HoldOne (took s p)
    hands one r =
        let old = one r in
        let here = one p in
        elim (set-either s.taken p r (taken_of s p + 1) 0) [
          | inl same ↦ (omega (arith, old.0, same), omega (arith, old.1, same))
          | inr new ↦
              subst (λ k. (length (choices_of s k) ≤ taken_of (took s p) r)
              × (taken_of (took s p) r ≤ placed_of s k + 1))
              (sym new.0) (omega (arith, here.0, new.1), omega (arith, low, new.1))
        ]

grows-chose : (s : HopState) (p : ℕ) (x : Chosen) (t : HopState)
    → t ≡ record s { choices = slice_set s.choices p (choices_of s p ++ x ∷ []) }
    → length (choices_of s p) < taken_of s p → HopGrows s t
grows-chose s p x t is room =
    subst (λ u. HopGrows s u) (sym is) (record { accepted = λ c was. was; hands = hands })
  where
    hands : HoldOne s → HoldOne (record s {
      choices = slice_set s.choices p (choices_of s p ++ x
          ∷ []);
    })
    hands one r =
        let old = one r in
        elim (set-either s.choices p r (choices_of s p ++ x ∷ []) []) [
          | inl same ↦ (subst (λ l. length l ≤ taken_of s r) (sym same) old.0, old.1)
          | inr new ↦
              let long : length (choices_of s p ++ x ∷ []) ≡ length (choices_of s p) + 1 =
              length-append (choices_of s p) (x ∷ []) in (
                subst (λ l. length l ≤ taken_of s r) (sym new.1)
                    (subst (λ k. length (choices_of s p ++ x ∷ []) ≤ taken_of s k) (sym new.0)
                    (omega (arith, long, room))),
                old.1,
              )
        ]

landed-accepts : (cause : Option DropCause) (b : Bare) (c x : ℕ) (bucket : Option ℕ) (k y : ℕ)
    → (k < length b.accepted → is_in y (accepted_at b k) ≡ true)
    → k < length (landed cause b c x bucket).accepted
    → is_in y (accepted_at (landed cause b c x bucket) k) ≡ true
landed-accepts None b c x bucket k y is lt =
    list-keeps b.accepted c k x y
    (is (subst (λ n. k < n) (length-set b.accepted c (accepted_at b c ++ x ∷ [])) lt))
landed-accepts (Some cause) b c x bucket k y is lt = is lt

landed-new : (cause : Option DropCause) (b : Bare) (c x : ℕ) (bucket : Option ℕ) → cause ≡ None
    → c < length (landed cause b c x bucket).accepted
    → is_in x (accepted_at (landed cause b c x bucket) c) ≡ true
landed-new None b c x bucket none lt =
    ap (λ l. is_in x l)
    (get_or-set_same b.accepted c (accepted_at b c ++ x ∷ []) []
    (subst (λ n. c < n) (length-set b.accepted c (accepted_at b c ++ x ∷ [])) lt))
    ∙ is_in-new x (accepted_at b c)
landed-new (Some cause) b c x bucket none lt = cc

grows-put : (s : HopState) (p : ℕ) (hash : Option ℕ) → HopGrows s (put_one s p hash)
grows-put s p hash =
    record {
      accepted = λ c is lt.
          landed-accepts (lane_drop_cause (lane_of s.fixed s.bare (in_hand s p).choice.lane) hash)
          s.bare
          (in_hand s p).choice.lane (in_hand s p).id (bucket_of hash) c.choice.lane c.id is lt;
      hands = hands;
    }
  where
    hands : HoldOne s → HoldOne (put_one s p hash)
    hands one r =
        let old = one r in
        elim (set-either s.placed p r (placed_of s p + 1) 0) [
          | inl same ↦ (old.0, omega (arith, old.1, same))
          | inr new ↦
              let here : placed_of s r ≡ placed_of s p = ap (λ k. placed_of s k) new.0 in
              (old.0, omega (arith, old.1, new.1, here))
        ]

pub hop-grows : (s : HopState) (e : HopEvent) → HopGrows s (happens s e).0
hop-grows s (event.Arrive p id) = by-leaves s (event.Arrive p id) refl refl refl refl
hop-grows s (event.Enter a) = by-leaves s (event.Enter a) refl refl refl refl
hop-grows s (event.Leave a) = by-leaves s (event.Leave a) refl refl refl refl
hop-grows s (event.Pull c) = by-leaves s (event.Pull c) refl refl refl refl
hop-grows s (event.Deliver c o) = by-leaves s (event.Deliver c o) refl refl refl refl
hop-grows s (event.Retire c) = by-leaves s (event.Retire c) refl refl refl refl
hop-grows s (event.Resize p count) = by-leaves s (event.Resize p count) refl refl refl refl
hop-grows s event.Close = by-leaves s event.Close refl refl refl refl
hop-grows s event.Reopen = by-leaves s event.Reopen refl refl refl refl
hop-grows s (event.Take p) =
    grows-if s (nat_lt (placed_of s p) (taken_of s p)) _ _ (λ is. no-growth s)
    (λ low. grows-if s (nat_lt (taken_of s p) (length (arrivals_of s p))) _ _
    (λ is. grows-took s p (ltb-false (placed_of s p) (taken_of s p) low)) (λ is. no-growth s))
hop-grows s (event.Weigh p class want desired online) =
    grows-if s (not (inside_of s p)) _ _ (λ is. no-growth s)
    (λ is. grows-if s (nat_lt (length (choices_of s p)) (taken_of s p)) _ _
    (λ room. grows-chose s p
    (record { id = next_of s p; choice = choice_of s p class want desired online })
    (chose s p (choice_of s p class want desired online)) refl (ltb-true (length (choices_of s p))
    (taken_of s p) room))
    (λ is. no-growth s))
hop-grows s (event.Put p hash) =
    grows-if s (not (inside_of s p)) _ _ (λ is. no-growth s)
    (λ is. grows-if s (nat_lt (placed_of s p) (length (choices_of s p))) _ _
    (λ is. grows-put s p hash) (λ is. no-growth s))

-- ---- a put that answers a position

-- where a put answers a position, the last choice of its producer was accepted
abbrev pub PutAccepts : HopState → ℕ → Outcome → Type 0
PutAccepts s p o = (position : ℕ) → put_position o.1 ≡ Some position → WasAccepted o.0
    (last_chosen o.0 p)

accepts-if : (s : HopState) (p : ℕ) (b : Bool) (x y : Outcome) → (b ≡ true → PutAccepts s p x)
    → PutAccepts s p y
    → PutAccepts s p (if b then x else y)
accepts-if s p true x y f g = f refl
accepts-if s p false x y f g = g

no-cause : (cause : Option DropCause) (s : HopState) (c position : ℕ)
    → put_position (answer.Went (answer_by cause (lane_of s.fixed s.bare c))) ≡ Some position
    → cause ≡ None
no-cause None s c position is = refl
no-cause (Some cause) s c position is = cc

pub put-accepts : (s : HopState) (p : ℕ) (hash : Option ℕ) → HoldOne s → PutAccepts s p
    (happens s (event.Put p hash))
put-accepts s p hash one =
    accepts-if s p (not (inside_of s p)) _ _ (λ is position e. cc)
    (accepts-if s p (nat_lt (placed_of s p) (length (choices_of s p))) _ _ done (λ position e. cc))
  where
    lane : ℕ
    lane = (in_hand s p).choice.lane

    done : nat_lt (placed_of s p) (length (choices_of s p)) ≡ true
        → (position : ℕ)
        → put_position (answer.Went (answer_by (lane_drop_cause (lane_of s.fixed s.bare lane) hash)
        (lane_of s.fixed s.bare lane))) ≡ Some position
        → WasAccepted (put_one s p hash) (last_chosen (put_one s p hash) p)
    done more position at =
        let held = one p in
        let lt = ltb-true (placed_of s p) (length (choices_of s p)) more in
        let here : placed_of s p ≡ length (choices_of s p) - 1 =
        omega (arith, held.0, held.1, lt) in
        let last : in_hand s p ≡ last_chosen s p =
        ap (λ k. slice_index_or (choices_of s p) k nobody) here
        ∙ sym (unwrap_or-slice_get (choices_of s p) (length (choices_of s p) - 1) nobody) in
        subst (λ c. WasAccepted (put_one s p hash) c) last
        (λ inside. landed-new (lane_drop_cause (lane_of s.fixed s.bare lane) hash) s.bare lane
        (in_hand s p).id
        (bucket_of hash) (no-cause (lane_drop_cause (lane_of s.fixed s.bare lane) hash) s lane
        position at) inside)
