-- The next item of all goes behind the last of its hand.
use Rattle.std.proofs.Common.{nat_lt}
use Rattle.std.specs.List.{slice_get}
use Rattle.std.proofs.lemmas.Option.{slice_get_cases}
use Rattle.std.proofs.lemmas.Bool.{cases_Bool, ltb-false, ltb-true}
use native.Mathlib.Nat as nat
use Rattle.workers.proofs.Names.{◌≡◌, inl, inr, ℕ, suc, ◌+◌, ◌-◌, ◌/◌, ◌%◌, ◌<◌, ◌≤◌, ◌⊎◌, true}
use Rattle.workers.proofs.Names.{false, List, [], ◌∷◌, ◌++◌, Some, None, length, map, sym, ap, ◌∙◌}
use Rattle.workers.proofs.Names.{subst, arith, slice_index_or, slice_set, length-map, cases_eq}
use Rattle.workers.proofs.Names.{AreDealt, hand_at}
use Rattle.workers.proofs.DealtListLemmas.{get-beyond, get-end, get-other, hand-of}
use Rattle.workers.proofs.DealtListLemmas.{hand-other, hand-set, map-set, not-below, size-by-end}
use Rattle.workers.proofs.DealtListLemmas.{size-by-none, size-set}

module _ {A : Type 0} (xs : List A) (hs : List (List A)) (some : 0 < length hs)
    (dealt : AreDealt xs hs) where
  abbrev m : ℕ
  m = length hs

  abbrev n : ℕ
  n = length xs

  abbrev w : ℕ
  w = n % m

  past : slice_get (hand_at hs w) (n / m) ≡ None
  past = sym (dealt n) ∙ get-beyond xs n (omega arith)

  -- the hand of the next item has those of all rounds before
  hand-size : length (hand_at hs w) ≡ n / m
  hand-size = by-round (cases_Bool (nat_lt n m))
    where
      later : (j : ℕ) → n ≡ j + m → length (hand_at hs w) ≡ n / m
      later j is = by-item (slice_get_cases xs j).1
        where
          same : w ≡ j % m
          same = ap (λ k. k % m) is ∙ nat.add-mod_right j m

          round : n / m ≡ suc (j / m)
          round =
              let more = nat.add-div_right j some in
              let whole = ap (λ k. k / m) is in omega (arith, more, whole)

          by-item : ((x : A) × (j < length xs) × (slice_get xs j ≡ Some x)
              × (slice_index_or xs j x ≡ x)) ⊎ ((length xs ≤ j) × (slice_get xs j ≡ None))
              → length (hand_at hs w) ≡ n / m
          by-item (inl (x, less, there, self)) =
              size-by-end (hand_at hs w) (j / m) x
              (ap (λ v. slice_get (hand_at hs v) (j / m)) same ∙ (sym (dealt j) ∙ there))
              (ap (slice_get (hand_at hs w)) (sym round) ∙ past)
              ∙ sym round
          by-item (inr (beyond, none)) = absurd (omega (arith, beyond, is, some))

      by-round : (nat_lt n m ≡ true) ⊎ (nat_lt n m ≡ false) → length (hand_at hs w) ≡ n / m
      by-round (inl low) =
          let first = nat.div-eq_of_lt (ltb-true n m low) in
          size-by-none (hand_at hs w) (ap (slice_get (hand_at hs w)) (sym first) ∙ past)
          ∙ sym first
      by-round (inr high) = let more = ltb-false n m high in later (n - m) (omega (arith, more))

  module _ (x : A) (ys : List A) (more : ys ≡ hand_at hs w ++ x ∷ []) where
    abbrev after : List (List A)
    after = slice_set hs w ys

    -- an item of that hand was there before, is the new one, or is beyond all
    by-place : (j : ℕ) → j % m ≡ w → slice_get (xs ++ x ∷ []) j ≡ slice_get ys (j / m)
    by-place j same =
        elim (cases_eq (j / m) (n / m)) [
          | inl round ↦
              ap (slice_get (xs ++ x ∷ [])) (this round)
              ∙ (get-end xs x
              ∙ (sym (get-end (hand_at hs w) x)
              ∙ (ap (λ k. slice_get (hand_at hs w ++ x ∷ []) k) (hand-size ∙ sym round)
              ∙ ap (λ h. slice_get h (j / m)) (sym more))))
          | inr other ↦
              get-other xs x j (λ is. other (ap (λ k. k / m) is))
              ∙ (dealt j
              ∙ (ap (λ v. slice_get (hand_at hs v) (j / m)) same
              ∙ (sym (get-other (hand_at hs w) x (j / m) (λ is. other (is ∙ hand-size)))
              ∙ ap (λ h. slice_get h (j / m)) (sym more))))
        ]
      where
        this : j / m ≡ n / m → j ≡ n
        this round =
            let below = not-below m n j same (omega (arith, round)) in
            let above = not-below m j n (sym same) (omega (arith, round)) in
            omega (arith, below, above)

    by-hand : (j : ℕ) → slice_get (xs ++ x ∷ []) j ≡ slice_get (hand_at after (j % m)) (j / m)
    by-hand j =
        elim (cases_eq (j % m) w) [
          | inr other ↦
              get-other xs x j (λ same. other (ap (λ k. k % m) same))
              ∙ (dealt j ∙ ap (λ h. slice_get h (j / m)) (sym (hand-other hs w (j % m) ys other)))
          | inl same ↦
              by-place j same
              ∙ ap (λ h. slice_get h (j / m))
              (sym (ap (hand_at after) same ∙ hand-set hs w ys (nat.mod-lt n some)))
        ]

    next-dealt : AreDealt (xs ++ x ∷ []) after
    next-dealt j =
        subst (λ k. slice_get (xs ++ x ∷ []) j ≡ slice_get (hand_at after (j % k)) (j / k))
        (sym (size-set hs w ys)) (by-hand j)

-- ---- the same by a step of the loop

module _ {A V : Type 0} (f : V → List A) (xs : List A) (hands : List V) (next count : ℕ)
    (here : next ≡ length xs) (many : length hands ≡ count) (some : 0 < count)
    (dealt : AreDealt xs (map f hands)) (v w : V) (x : A)
    (this : v ≡ slice_index_or hands (next % count) v) (more : f w ≡ f v ++ x ∷ []) where
  place : length xs % length (map f hands) ≡ next % count
  place =
      ap (λ k. length xs % k) (length-map hands f ∙ many)
      ∙ ap (λ k. k % count) (sym here)

  hand : hand_at (map f hands) (length xs % length (map f hands)) ≡ f v
  hand =
      let below = nat.mod-lt next some in
      ap (hand_at (map f hands)) place
      ∙ (hand-of f hands (next % count) v (omega (arith, below, many)) ∙ ap f (sym this))

  -- the next item is dealt to its hand
  pub one-more : AreDealt (xs ++ x ∷ []) (map f (slice_set hands (next % count) w))
  one-more =
      let size = length-map hands f in
      subst (AreDealt (xs ++ x ∷ []))
      (ap (λ k. slice_set (map f hands) k (f w)) place ∙ sym (map-set f hands (next % count) w))
      (next-dealt xs (map f hands) (omega (arith, size, many, some)) dealt x (f w)
      (more ∙ ap (λ ys. ys ++ x ∷ []) (sym hand)))
