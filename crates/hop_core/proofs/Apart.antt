-- Lists without a common member, side by side.
use Rattle.std.proofs.Common.{ℕ, ◌+◌, ◌<◌, ◌≡◌, ◌≢◌, ◌⊎◌, List, [], ◌∷◌, ◌++◌, length, refl, ap}
use Rattle.std.proofs.Common.{◌∙◌, sym, arith, suc, zero, inl, inr, get_or, map}
use Rattle.std.specs.Prelude.{slice_index}
use Rattle.steer_base.specs.Orders.{Apart}
use Rattle.hop_model.specs.Hop.{HopState, fell_at}
use Rattle.hop_core.specs.Laws.{fallen, HasPlaces}
use Rattle.hop_model.specs.Sound.{Distinct, Sound}

-- a list of two rows of lists is one of the first row or one of the second
append_at : (xs ys : List (List ℕ)) (p : ℕ)
    → ((p < length xs) × (get_or (xs ++ ys) p [] ≡ get_or xs p [])) ⊎ ((k : ℕ) × (p ≡ length xs + k)
    × (get_or (xs ++ ys) p [] ≡ get_or ys k []))
append_at [] ys p = inr (p, omega arith, refl)
append_at (x ∷ xs) ys zero = inl (omega arith, refl)
append_at (x ∷ xs) ys (suc p) =
    elim (append_at xs ys p) [
      | inl a ↦ (let lt = a.0 in inl (omega arith, a.1))
      | inr b ↦ (let e = b.1 in inr (b.0, omega arith, b.2))
    ]

Apart-append : (xs ys : List (List ℕ)) → Distinct (λ p. get_or xs p [])
    → Distinct (λ p. get_or ys p [])
    → ((p q i j : ℕ) → i < length (get_or xs p []) → j < length (get_or ys q []) → slice_index
    (get_or xs p []) i ≢ slice_index (get_or ys q []) j)
    → Apart (xs ++ ys)
Apart-append xs ys left right never p q i j pl ql ip jq e =
    elim (append_at xs ys p) [
      | inl a ↦ elim (append_at xs ys q) [
        | inl b ↦ left p q i j (rw a.1 at ip) (rw b.1 at jq) (ap (λ l. slice_index l i) (sym a.1)
            ∙ e ∙ ap (λ l. slice_index l j) b.1)
        | inr b ↦ absurd (never p b.0 i j (rw a.1 at ip) (rw b.2 at jq) (ap (λ l. slice_index l i)
            (sym a.1) ∙ e ∙ ap (λ l. slice_index l j) b.2))
      ]
      | inr a ↦ elim (append_at xs ys q) [
        | inl b ↦ absurd (never q a.0 j i (rw b.1 at jq) (rw a.2 at ip) (ap (λ l. slice_index l j)
            (sym b.1) ∙ sym e ∙ ap (λ l. slice_index l i) a.2))
        | inr b ↦ (
            let same = right a.0 b.0 i j (rw a.2 at ip) (rw b.2 at jq) (ap (λ l. slice_index l i)
            (sym a.2) ∙ e ∙ ap (λ l. slice_index l j) b.2) in
            (a.1 ∙ ap (λ k. length xs + k) same.0 ∙ sym b.1, same.1))
      ]
    ]

-- what each lane dropped, by the number of the lane
fallen_at : {X : Type 0} (f : X → ℕ) (drops : List (List X)) (c : ℕ)
    → get_or (map (λ ds. map f ds) drops) c [] ≡ map f (get_or drops c [])
fallen_at f [] c = refl
fallen_at f (ds ∷ dss) zero = refl
fallen_at f (ds ∷ dss) (suc c) = fallen_at f dss c

pub HasPlaces-from : (s : HopState) → Sound s → HasPlaces s
HasPlaces-from s h =
    let at : (c : ℕ) → get_or (fallen s.bare) c [] ≡ fell_at s.bare c =
    fallen_at (λ d. d.id) s.bare.drops in
    record {
      lanes = Apart-append s.bare.accepted (fallen s.bare) h.places.once
          (λ p q i j ip jq e. h.places.fell_once p q i j (rw (at p) at ip) (rw (at q) at jq)
          (ap (λ l. slice_index l i) (sym (at p)) ∙ e ∙ ap (λ l. slice_index l j) (at q)))
          (λ p q i j ip jq e. h.places.never_both p q i j ip (rw (at q) at jq)
          (e ∙ ap (λ l. slice_index l j) (at q)));
      outs = λ p q i j pl ql ip jq e. h.places.out_once p q i j ip jq e;
      places = h.places;
      accepted = h.puts;
      dropped = h.falls;
    }
