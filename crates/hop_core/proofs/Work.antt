-- The work in a hop: what each event adds, and how much there can be.
use Rattle.std.proofs.Common.{ℕ, ◌+◌, ◌≤◌, ◌<◌, ◌≡◌, ◌⊎◌, true, false, List, [], ◌∷◌, ◌++◌, Option}
use Rattle.std.proofs.Common.{Some, None, length, refl, ◌∙◌, sym, arith, suc, zero, inl, inr}
use Rattle.std.proofs.Common.{get_or, set as set_list, length-append, eqb}
use Rattle.std.specs.Prelude.{slice_index}
use Rattle.std.specs.List.{IsDistinct}
use Rattle.std.proofs.lemmas.Map.Steps.{length-le_from_distinct_below}
use Rattle.steer_base.specs.Drops.{bucket_of, lane_drop_cause}
use Rattle.steer_base.specs.declared.choice.Chosen.{Chosen}
use Rattle.steer_base.specs.declared.idle.Idle.{Idle}
use Rattle.steer_base.specs.declared.put.DropCause.{DropCause}
use Rattle.hop_model.specs.declared.event.HopEvent.{HopEvent}
use Rattle.hop_model.specs.declared.event.HopEvent.TheVariants as event
use Rattle.hop_model.specs.declared.event.HopAnswer.TheVariants as answer
use Rattle.hop_model.specs.Hop.{HopState, accepted_at, arrivals_of, choices_of, in_hand, next_of}
use Rattle.hop_model.specs.Hop.{lane_of, choice_of}
use Rattle.hop_model.specs.Events.{Outcome, MayAsk}
use Rattle.hop_model.specs.Sound.{Distinct, Sound}
use Rattle.hop_core.specs.Work.{total, sum_of, work, event_is_work, WorkGoesOn, WorkStays}
use Rattle.hop_core.specs.Work.{WorkIsBounded}
use Rattle.hop_core.proofs.Lists.{length-push}
use Rattle.hop_core.proofs.Cases.{Answered, Enabled, by_outcomes, by_cases}
use Rattle.hop_core.proofs.PutSteps.{put_as}
use Rattle.hop_core.proofs.Rooms.{distinct, distinct_none, below, all_below}

total-push : {X : Type 0} (ls : List (List X)) (i : ℕ) (x : X) → i < length ls
    → total (set_list ls i (get_or ls i [] ++ x ∷ [])) ≡ total ls + 1
unfolding total
total-push [] i x in' = absurd (omega arith)
total-push (l ∷ ls) zero x in' = let e = length-push l x in omega arith
total-push (l ∷ ls) (suc i) x in' = let e = total-push ls i x (omega arith) in omega arith

sum-bump : (xs : List ℕ) (i : ℕ) → i < length xs
    → sum_of (set_list xs i (get_or xs i 0 + 1)) ≡ sum_of xs + 1
unfolding sum_of
sum-bump [] i in' = absurd (omega arith)
sum-bump (x ∷ xs) zero in' = omega arith
sum-bump (x ∷ xs) (suc i) in' = let e = sum-bump xs i (omega arith) in omega arith

-- ---- what each event adds

record Worked (s : HopState) (o : Outcome) : Type 0 where
  on : (work o.0 ≡ work s + 1) ⊎ ((why : Idle) × (o.1 ≡ answer.Idle why) × (o.0 ≡ s))

landed-work : (s : HopState) (p : ℕ) (cause : Option DropCause) (bucket : Option ℕ)
    → p < length s.placed → work (put_as s p cause bucket) ≡ work s + 1
landed-work s p None bucket in' = let b = sum-bump s.placed p in' in omega arith
landed-work s p (Some cause) bucket in' = let b = sum-bump s.placed p in' in omega arith

worked : (s : HopState) (e : HopEvent) → MayAsk s e → Sound s → event_is_work e ≡ true
    → Answered (Worked s) s e
worked s (event.Arrive p id) m h w =
    record { on = inl (let b = total-push s.arrivals p id m.producer in omega arith) }
worked s (event.Take p) m h w = λ _ _. record {
  on = inl (let i = h.wide in
      let b = sum-bump s.taken p (omega arith) in omega arith);
}
worked s (event.Enter a) m h w = absurd cc
worked s (event.Leave a) m h w = absurd cc
worked s (event.Weigh p class want desired online) m h w =
    λ _ _. record {
      on = inl (
          let i = h.wide in let a = m.producer in
          let c : Chosen =
          record { id = next_of s p; choice = choice_of s p class want desired online } in
          let b : total (set_list s.choices p (choices_of s p ++ c ∷ [])) ≡ total s.choices + 1 =
          total-push s.choices p c (omega arith) in
          omega arith);
    }
worked s (event.Put p hash) m h w =
    λ _ _. record {
      on = inl
          (landed-work s p (lane_drop_cause (lane_of s.fixed s.bare (in_hand s p).choice.lane) hash)
          (bucket_of hash) (let i = h.wide in omega arith));
    }
worked s (event.Pull c) m h w = λ _ _. record {
  on = inl (let i = h.wide in
      let b = sum-bump s.bare.pulled c (omega arith) in omega arith);
}
worked s (event.Deliver c o) m h w = λ _. record {
  on = inl (let i = h.wide in let a = m.lane in
      let b = sum-bump s.bare.delivered c (omega arith) in omega arith);
}
worked s (event.Retire c) m h w = λ _. record {
  on = inl (let i = h.wide in
      let b = sum-bump s.bare.retired c (omega arith) in omega arith);
}
worked s (event.Resize p count) m h w = absurd cc
worked s event.Close m h w = absurd cc
worked s event.Reopen m h w = absurd cc

pub work_goes_on : WorkGoesOn
work_goes_on s e m h w = (by_outcomes (Worked s) s e (λ why. record { on = inr (why, refl, refl) })
    (worked s e m h w)).on

record SameWork (s t : HopState) : Type 0 where
  same : work t ≡ work s

rests : (s : HopState) (e : HopEvent) → event_is_work e ≡ false → Enabled (SameWork s) s e
rests s (event.Arrive p id) w = absurd cc
rests s (event.Take p) w = absurd cc
rests s (event.Enter a) w = λ _ _. record { same = refl }
rests s (event.Leave a) w = λ _ _. record { same = refl }
rests s (event.Weigh p class want desired online) w = absurd cc
rests s (event.Put p hash) w = absurd cc
rests s (event.Pull c) w = absurd cc
rests s (event.Deliver c o) w = absurd cc
rests s (event.Retire c) w = absurd cc
rests s (event.Resize p count) w = record { same = refl }
rests s event.Close w = λ _. record { same = refl }
rests s event.Reopen w = record { same = refl }

pub work_stays : WorkStays
work_stays s e w = (by_cases (SameWork s) s e (record { same = refl }) (rests s e w)).same

-- ---- how much there can be

sum-le_total : {X : Type 0} (ns : List ℕ) (ls : List (List X)) → length ns ≡ length ls
    → ((i : ℕ) → get_or ns i 0 ≤ length (get_or ls i [])) → sum_of ns ≤ total ls
unfolding total sum_of
sum-le_total [] ls e h = omega arith
sum-le_total (n ∷ ns) [] e h = absurd (omega arith)
sum-le_total (n ∷ ns) (l ∷ ls) e h =
    let a = h 0 in let b = sum-le_total ns ls (omega arith) (λ i. h (suc i)) in omega arith

total-le_sum : {X : Type 0} (ls : List (List X)) (ns : List ℕ) → length ls ≡ length ns
    → ((i : ℕ) → length (get_or ls i []) ≤ get_or ns i 0) → total ls ≤ sum_of ns
unfolding total sum_of
total-le_sum [] ns e h = omega arith
total-le_sum (l ∷ ls) [] e h = absurd (omega arith)
total-le_sum (l ∷ ls) (n ∷ ns) e h =
    let a = h 0 in let b = total-le_sum ls ns (omega arith) (λ i. h (suc i)) in omega arith

-- all lists as one
abbrev flat : List (List ℕ) → List ℕ
flat [] = []
flat (l ∷ ls) = l ++ flat ls

length-flat : (ls : List (List ℕ)) → length (flat ls) ≡ total ls
unfolding total
length-flat [] = refl
length-flat (l ∷ ls) = let e = length-append l (flat ls) in let i = length-flat ls in omega arith

in-append : (xs ys : List ℕ) (j : ℕ) → j < length (xs ++ ys)
    → ((j < length xs) × (get_or (xs ++ ys) j 0 ≡ get_or xs j 0)) ⊎ ((k : ℕ) × (k < length ys)
    × (get_or (xs ++ ys) j 0 ≡ get_or ys k 0))
in-append [] ys j in' = inr (j, in', refl)
in-append (x ∷ xs) ys zero in' = inl (omega arith, refl)
in-append (x ∷ xs) ys (suc j) in' =
    elim (in-append xs ys j (omega arith)) [
      | inl a ↦ (let lt = a.0 in inl (omega arith, a.1))
      | inr b ↦ inr b
    ]

-- each member of all lists is a member of one
in-flat : (ls : List (List ℕ)) (j : ℕ) → j < length (flat ls)
    → (q : ℕ) × (k : ℕ) × (k < length (get_or ls q [])) × (get_or (get_or ls q []) k 0 ≡ get_or
    (flat ls) j 0)
in-flat [] j in' = absurd (omega arith)
in-flat (l ∷ ls) j in' =
    elim (in-append l (flat ls) j in') [
      | inl a ↦ (0, j, a.0, sym a.1)
      | inr b ↦ (let r = in-flat ls b.0 b.1 in (suc r.0, r.1, r.2, r.3 ∙ sym b.2))
    ]

distinct-flat : (ls : List (List ℕ)) → Distinct (λ q. get_or ls q []) → IsDistinct eqb (flat ls)
distinct-flat [] h = distinct_none
distinct-flat (l ∷ ls) h =
    distinct l (flat ls) (λ i j a b e. (h 0 0 i j a b e).1)
    (λ i j a b e. let r = in-flat ls j b in let f = (h 0 (suc r.0) i r.1 a r.2 (e ∙ sym r.3)).0 in
    omega (arith, f))
    (distinct-flat ls (λ p q i j a b e. let f = h (suc p) (suc q) i j a b e in
    let g = f.0 in (omega (arith, g), f.1)))

-- lists without a common member, of numbers below n, have at most n members
pub room-lists : (n : ℕ) (ls : List (List ℕ)) → ((q i : ℕ) → i < length (get_or ls q [])
    → get_or (get_or ls q []) i 0 < n) → Distinct (λ q. get_or ls q []) → total ls ≤ n
room-lists n ls small h =
    let le = length-le_from_distinct_below (flat ls) n (distinct-flat ls h)
    (below n (flat ls) (all_below n (flat ls) (λ j jn. let r = in-flat ls j jn in
    let lt = small r.0 r.1 r.2 in rw (sym r.3) lt))) in
    let e = length-flat ls in
    omega arith

pub work_is_bounded : WorkIsBounded
work_is_bounded s h =
    let w = h.wide in
    let arrivals : total s.arrivals ≤ s.fixed.room =
    room-lists s.fixed.room s.arrivals h.small.below h.once in
    let taken : sum_of s.taken ≤ total s.arrivals =
    sum-le_total s.taken s.arrivals w.taken h.hands.arrived in
    let choices : total s.choices ≤ sum_of s.taken = total-le_sum s.choices s.taken
    (omega arith) h.hands.chosen in
    let placed : sum_of s.placed ≤ total s.choices = sum-le_total s.placed s.choices
    (omega arith) h.hands.put in
    let accepted : total s.bare.accepted ≤ s.fixed.room =
    room-lists s.fixed.room s.bare.accepted
    (λ c j jn. let p = h.puts c j jn in let a = h.hands.put p.0 in let b = h.hands.chosen p.0 in
    let e = h.hands.arrived p.0 in let lt = p.2 in
    let same : slice_index (arrivals_of s p.0) p.1 ≡ slice_index (accepted_at s.bare c) j =
    sym (h.hands.of_arrivals p.0 p.1 (omega arith)) ∙ p.3 in
    rw same at (h.small.below p.0 p.1 (omega arith)))
    h.places.once in
    let pulled : sum_of s.bare.pulled ≤ total s.bare.accepted =
    sum-le_total s.bare.pulled s.bare.accepted w.pulled h.counts.pulled_first in
    let delivered : sum_of s.bare.delivered ≤ total s.bare.accepted =
    sum-le_total s.bare.delivered s.bare.accepted w.delivered (λ c.
    let a = h.counts.delivered_first c in let b = h.counts.pulled_first c in omega arith) in
    let retired : sum_of s.bare.retired ≤ total s.bare.accepted =
    sum-le_total s.bare.retired s.bare.accepted w.retired
    (λ c. let a = h.counts.retired_first c in let b = h.counts.delivered_first c in
    let e = h.counts.pulled_first c in omega arith) in
    omega arith
