use Rattle.std.proofs.Common.{ℕ, ◌+◌, ◌≤◌, ◌<◌, ◌≡◌, Bool, true, false, cond, List, [], ◌∷◌, ◌++◌}
use Rattle.std.proofs.Common.{Option, Some, None, length, refl, ap, ◌∙◌, sym, arith, inl, inr}
use Rattle.std.proofs.Common.{get_or, ◌⊎◌, map}
use Rattle.std.specs.Prelude.{◌==◌, nat_le, ◌^◌}
use Rattle.std.specs.List.{All}
use Rattle.std.proofs.lemmas.List.Elements.{All-push, All-pop, All-head, All-tail}
use Rattle.std.proofs.lemmas.Bool.{cases_Bool, leb-true}
use Rattle.steer_base.specs.Choices.{has_moved}
use Rattle.steer_base.specs.Choices.{by_entry}
use Rattle.steer_base.specs.Counters.{has_reached, number}
use Rattle.steer_base.specs.Entries.{last_or, position, current_lane, recorded_count}
use Rattle.steer_base.proofs.CountersLemmas.{has_reached-counts}
use Rattle.steer_base.proofs.EntriesLemmas.{place_in-le, place_in-new, current_lane-push}
use Rattle.steer_base.proofs.EntriesLemmas.{recorded_count-push, recorded_count-accept}
use Rattle.steer_base.proofs.EntriesLemmas.{recorded_count-same, recorded_count-le}
use Rattle.steer_base.specs.declared.choice.Choice.{Choice}
use Rattle.steer_base.specs.declared.choice.Chosen.{Chosen}
use Rattle.hop_model.specs.Standing.{StandsAt, Standing}

-- a retire
pub Standing-retire : (accepted : ℕ → List ℕ) (retired later : ℕ → ℕ) (cs : List Chosen)
    → ((d : ℕ) → retired d ≤ later d)
    → Standing accepted retired cs → Standing accepted later cs
Standing-retire accepted retired later cs up h k d in' n at r =
    h k d in' n at (let u = up (get_or cs k d).choice.lane in omega arith)

-- a put of another packet
pub Standing-same : (old new : ℕ → List ℕ) (retired : ℕ → ℕ) (cs : List Chosen)
    → All (λ c. position new c ≡ position old c) cs
    → Standing old retired cs → Standing new retired cs
Standing-same old new retired cs same h k d in' n at r =
    rw (recorded_count-same old new cs same) (h k d in' n (sym (same k d in') ∙ at) r)

-- Where nothing of the class is unretired, it may stand anywhere.
pub Standing-moved : (accepted : ℕ → List ℕ) (retired : ℕ → ℕ) (cs : List Chosen) (lane : Option ℕ)
    (tail : ℕ)
    → (c : Chosen) → StandsAt accepted retired (current_lane cs) (recorded_count accepted cs) c
    → ((n : ℕ) → current_lane cs ≡ Some c.choice.lane → n ≤ recorded_count accepted cs
    → position accepted c ≡ Some n → n ≤ retired c.choice.lane)
    → StandsAt accepted retired lane tail c
Standing-moved accepted retired cs lane tail c h none n at r =
    let s = h n at r in
    let low : n ≤ retired c.choice.lane = none n s.0 s.1 at in
    absurd (omega arith)

-- What a move takes: no current lane, or one that is offline, or one whose head has reached the
-- recorded tail.
pub record Moves (current : Option ℕ) (tail : ℕ) (head : ℕ → ℕ) (online : ℕ → Bool) : Type 0 where
  pub may : (c : ℕ) → current ≡ Some c → (online c ≡ false) ⊎ (has_reached (head c) tail 0 ≡ true)

pub by_entry-cases : (k : ℕ) (want : Option ℕ) (desired tail : ℕ) (head : ℕ → ℕ) (online : ℕ → Bool)
    (current : Option ℕ) (t : Choice)
    → t ≡ by_entry k want desired tail head online current
    → ((has_moved t.why ≡ false) × (current ≡ Some t.lane)) ⊎ ((has_moved t.why ≡ true)
    × Moves current tail head online)
by_entry-cases k want desired tail head online None t e =
    rw e (inr (refl, record { may = λ c h. absurd cc }))
by_entry-cases k want desired tail head online (Some c) t e =
    elim (cases_Bool (c == desired)) [
      | inl s ↦ rw (e, s) (inl (refl, refl))
      | inr s ↦ elim (cases_Bool (online c)) [
        | inl o ↦ elim (cases_Bool (has_reached (head c) tail 0)) [
          | inl p ↦ rw (e, s, o, p)
              (inr (refl, record { may = λ d h. let f : c ≡ d = cc in rw (← f) (inr p) }))
          | inr p ↦ rw (e, s, o, p) (inl (refl, refl))
        ]
        | inr o ↦ rw (e, s, o)
            (inr (refl, record { may = λ d h. let f : c ≡ d = cc in rw (← f) (inl o) }))
      ]
    ]

-- A weigh: the packet in hand is accepted nowhere yet, and what is offline is empty.
pub Standing-weigh : (start : ℕ) (accepted : ℕ → List ℕ) (retired : ℕ → ℕ) (cs : List Chosen)
    (c : Chosen)
    (k : ℕ) (want : Option ℕ) (desired : ℕ) (online : ℕ → Bool)
    → start < 2 ^ 32 → ((d : ℕ) → length (accepted d) ≤ 262144)
    → ((d : ℕ) → retired d ≤ length (accepted d))
    → c.choice ≡ by_entry k want desired (number start (recorded_count accepted cs))
    (λ d. number start (retired d)) online (current_lane cs)
    → position accepted c ≡ None
    → ((d : ℕ) → online d ≡ false → retired d ≡ length (accepted d))
    → Standing accepted retired cs → Standing accepted retired (cs ++ c ∷ [])
Standing-weigh start accepted retired cs c k want desired online wide fits within e new drained h =
    let tail_fits : recorded_count accepted cs ≤ 262144 =
    recorded_count-le accepted cs 262144 fits in
    rw (current_lane-push cs c, recorded_count-push accepted cs c new)
    (All-push (StandsAt accepted retired (Some c.choice.lane) (cond (has_moved c.choice.why) 0
    (recorded_count accepted cs))) cs c
    (elim (by_entry-cases k want desired (number start (recorded_count accepted cs))
    (λ d. number start (retired d)) online (current_lane cs) c.choice e) [
      | inl s ↦ rw (s.0, ← s.1) h
      | inr m ↦ λ i d in'. Standing-moved accepted retired cs _ _ (get_or cs i d) (h i d in')
          (λ n at le place. elim (m.1.may (get_or cs i d).choice.lane at) [
            | inl o ↦ (let full = drained (get_or cs i d).choice.lane o in
                let b = place_in-le (get_or cs i d).id (accepted (get_or cs i d).choice.lane) n
                place in omega arith)
            | inr p ↦ (
                let lane : ℕ = (get_or cs i d).choice.lane in
                let a = fits lane in let b = within lane in
                let counts : nat_le (recorded_count accepted cs + 0) (retired lane) ≡ true =
                sym (has_reached-counts start (retired lane) (recorded_count accepted cs) 0 wide
                (omega arith) tail_fits) ∙ p in
                let le2 = leb-true (recorded_count accepted cs + 0) (retired lane) counts in
                omega arith)
          ])
    ])
    (λ n at r. absurd (let f : Some n ≡ None = sym at ∙ new in cc)))

-- A put that is accepted, at the end of the lane of the choice.
pub Standing-accept : (old new : ℕ → List ℕ) (retired : ℕ → ℕ) (cs : List Chosen) (c : Chosen)
    → All (λ d. position new d ≡ position old d) cs
    → position old c ≡ None
    → new c.choice.lane ≡ old c.choice.lane ++ c.id ∷ []
    → Standing old retired (cs ++ c ∷ []) → Standing new retired (cs ++ c ∷ [])
Standing-accept old new retired cs c same absent added h =
    let here : position new c ≡ Some (length (old c.choice.lane) + 1) =
    rw added (place_in-new c.id (old c.choice.lane) absent) in
    let front = (All-pop (StandsAt old retired (current_lane (cs ++ c ∷ []))
    (recorded_count old (cs ++ c ∷ []))) (cs ++ c ∷ []) cs (Some c) refl h).0 in
    rw (
      current_lane-push cs c,
      recorded_count-accept new cs c
          (length (old c.choice.lane) + 1) here,
    )
    (All-push (StandsAt new retired (Some c.choice.lane) (length (old c.choice.lane) + 1)) cs c
    (λ i d in' n at r.
    let place : position old (get_or cs i d) ≡ Some n = sym (same i d in') ∙ at in
    let s = front i d in' n place r in
    let lane : Some c.choice.lane ≡ Some (get_or cs i d).choice.lane = sym (current_lane-push cs c)
    ∙ s.0 in
    let l : c.choice.lane ≡ (get_or cs i d).choice.lane = cc in
    let b = place_in-le (get_or cs i d).id (old (get_or cs i d).choice.lane) n place in
    let same_length : length (old c.choice.lane) ≡ length (old (get_or cs i d).choice.lane) =
    ap (λ x. length (old x)) l in
    (lane, omega arith))
    (λ n at r. let f : Some n ≡ Some (length (old c.choice.lane) + 1) = sym at ∙ here in
    let g : n ≡ length (old c.choice.lane) + 1 = cc in (refl, omega arith)))

last_in : (P : ℕ → Type 0) (d : Option ℕ) (cs : List Chosen) → ((m : ℕ) → d ≡ Some m → P m)
    → All (λ c. P c.choice.lane) cs
    → (l : ℕ) → last_or d (map (λ c. Some c.choice.lane) cs) ≡ Some l → P l
last_in P d [] base all l e = base l e
last_in P d (c ∷ cs) base all l e =
    last_in P (Some c.choice.lane) cs (λ m f. let g : c.choice.lane ≡ m = cc in
    rw g at (All-head (λ c. P c.choice.lane) c cs all))
    (All-tail (λ c. P c.choice.lane) c cs all) l e

pub current_lane-in : (P : ℕ → Type 0) (cs : List Chosen) → All (λ c. P c.choice.lane) cs → (l : ℕ)
    → current_lane cs ≡ Some l → P l
current_lane-in P cs all l e = last_in P None cs (λ m f. absurd cc) all l e
