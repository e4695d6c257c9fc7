-- The last item of all is the last of its hand.
use Rattle.std.proofs.Common.{nat_lt}
use Rattle.std.specs.List.{slice_get}
use Rattle.std.proofs.lemmas.Grind.{reverse_onto}
use Rattle.std.proofs.lemmas.Option.{slice_get_cases}
use Rattle.std.proofs.lemmas.Bool.{cases_Bool, ltb-false, ltb-true}
use native.Mathlib.Nat as nat
use Rattle.workers.proofs.Names.{◌≡◌, inl, inr, ℕ, suc, ◌+◌, ◌-◌, ◌/◌, ◌%◌, ◌<◌, ◌≤◌, ◌⊎◌, true}
use Rattle.workers.proofs.Names.{false, List, [], ◌∷◌, ◌++◌, Some, None, length, map, take, drop}
use Rattle.workers.proofs.Names.{reverse, sym, refl, ap, ◌∙◌, subst, arith, slice_index_or}
use Rattle.workers.proofs.Names.{slice_set, length-map, length-set, cases_eq, AreDealt, hand_at}
use Rattle.workers.proofs.DealtListLemmas.{drop-one, get-below, get-beyond, get-end, get-front}
use Rattle.workers.proofs.DealtListLemmas.{get-not-last, get-past, hand-of, hand-other, hand-set}
use Rattle.workers.proofs.DealtListLemmas.{map-set, not-below, size-by-end, size-set}

module _ {A : Type 0} (items : List A) (hs : List (List A)) (n : ℕ) (some : 0 < length hs)
    (dealt : AreDealt (take (suc n) items) hs) where
  abbrev m : ℕ
  m = length hs

  abbrev w : ℕ
  w = n % m

  there : (x : A) → slice_get items n ≡ Some x → slice_get (hand_at hs w) (n / m) ≡ Some x
  there x is = sym (dealt n) ∙ (get-below (suc n) n items (omega arith) ∙ is)

  beyond : slice_get (hand_at hs w) (suc (n / m)) ≡ None
  beyond =
      ap (λ v. slice_get (hand_at hs v) (suc (n / m))) (sym (nat.add-mod_right n m))
      ∙ (ap (slice_get (hand_at hs ((n + m) % m))) (one-more ∙ sym (nat.add-div_right n some))
      ∙ (sym (dealt (n + m)) ∙ get-past (suc n) (n + m) items (omega (arith, some))))
    where
      one-more : suc (n / m) ≡ n / m + 1
      one-more = omega arith

  -- the last item is the last of its hand
  module _ (x : A) (is : slice_get items n ≡ Some x) where
    pub hand-size : length (hand_at hs w) ≡ suc (n / m)
    hand-size = size-by-end (hand_at hs w) (n / m) x (there x is) beyond

    module _ (ys : List A) (y : A) (ends : hand_at hs w ≡ ys ++ y ∷ []) where
      front-size : length ys ≡ n / m
      front-size =
          let size = hand-size in
          let all = ap length ends in
          let sum = length-end ys in
          omega (arith, size, all, sum)
        where
          length-end : (zs : List A) → length (zs ++ y ∷ []) ≡ length zs + 1
          length-end [] = refl
          length-end (z ∷ zs) = let more = length-end zs in omega (arith, more)

      pub last-is : Some y ≡ Some x
      last-is =
          sym (get-end ys y)
          ∙ (ap (slice_get (ys ++ y ∷ [])) front-size
          ∙ (ap (λ zs. slice_get zs (n / m)) (sym ends) ∙ there x is))

      abbrev rest : List (List A)
      rest = slice_set hs w ys

      -- an item of that hand is before its last or beyond all
      by-place : (j : ℕ) → j % m ≡ w
          → (nat_lt (j / m) (n / m) ≡ true) ⊎ (nat_lt (j / m) (n / m) ≡ false)
          → slice_get (take n items) j ≡ slice_get ys (j / m)
      by-place j same (inl low) =
          let less = ltb-true (j / m) (n / m) low in
          let size = front-size in
          sym (get-not-last n j items (λ is_n. earlier less (ap (λ k. k / m) is_n)))
          ∙ (dealt j
          ∙ (ap (λ h. slice_get h (j / m)) (ap (hand_at hs) same ∙ ends)
          ∙ get-front ys (y ∷ []) (j / m) (omega (arith, less, size))))
        where
          earlier : {a b : ℕ} → a < b → a ≡ b → ⊥
          earlier less is_same = omega (arith, less, is_same)
      by-place j same (inr high) =
          let more = ltb-false (j / m) (n / m) high in
          let size = front-size in
          get-past n j items (not-below m n j same more)
          ∙ sym (get-beyond ys (j / m) (omega (arith, more, size)))

      by-hand : (j : ℕ) → slice_get (take n items) j
          ≡ slice_get (hand_at rest (j % m)) (j / m)
      by-hand j =
          elim (cases_eq (j % m) w) [
            | inr other ↦
                sym (get-not-last n j items (λ same. other (ap (λ k. k % m) same)))
                ∙ (dealt j ∙ ap (λ h. slice_get h (j / m)) (sym (hand-other hs w (j % m) ys other)))
            | inl same ↦
                by-place j same (cases_Bool (nat_lt (j / m) (n / m)))
                ∙ ap (λ h. slice_get h (j / m))
                (sym (ap (hand_at rest) same ∙ hand-set hs w ys (nat.mod-lt n some)))
          ]

      pub still-dealt : AreDealt (take n items) rest
      still-dealt j =
          subst (λ k. slice_get (take n items) j ≡ slice_get (hand_at rest (j % k)) (j / k))
          (sym (size-set hs w ys)) (by-hand j)

-- ---- the same by a step of the loop

module _ {A V : Type 0} (f : V → List A) where
  -- Of the items so many are left in the hands, and the others are in all, the last first.
  pub record AreLeft (items : List A) (hands : List V) (all : List A) (left : ℕ) : Type 0 where
    pub few : left ≤ length items
    pub some : 0 < length hands
    pub dealt : AreDealt (take left items) (map f hands)
    pub are : all ≡ reverse (drop left items)

  module _ (items : List A) (hands : List V) (all : List A) (left size : ℕ)
      (are_left : AreLeft items hands all left) (more : 0 < left) (count : size ≡ length hands)
      (v : V) (this : v ≡ slice_index_or hands ((left - 1) % size) v) where
    abbrev n : ℕ
    n = left - 1

    abbrev hs : List (List A)
    hs = map f hands

    is : left ≡ suc n
    is = omega (arith, more)

    many : length hs ≡ size
    many = length-map hands f ∙ sym count

    some : 0 < length hs
    some = let s = are_left.some in omega (arith, s, many, count)

    all-dealt : AreDealt (take (suc n) items) hs
    all-dealt = subst (λ l. AreDealt (take l items) hs) is are_left.dealt

    an-item : (x : A) × (slice_get items n ≡ Some x)
    an-item = at (slice_get_cases items n).1
      where
        at : ((x : A) × (n < length items) × (slice_get items n ≡ Some x)
            × (slice_index_or items n x ≡ x))
            ⊎ ((length items ≤ n) × (slice_get items n ≡ None))
            → (x : A) × (slice_get items n ≡ Some x)
        at (inl (x, less, there, same)) = (x, there)
        at (inr (beyond, past)) = let f = are_left.few in absurd (omega (arith, beyond, is, f))

    is-hand : hand_at hs (n % length hs) ≡ f v
    is-hand =
        ap (λ m. hand_at hs (n % m)) many
        ∙ (hand-of f hands (n % size) v within ∙ ap f (sym this))
      where
        within : n % size < length hands
        within =
            let below = nat.mod-lt n {m = size} (omega (arith, some, many)) in
            omega (arith, below, count)

    -- the hand of the last item is not empty
    pub not-empty : 0 < length (f v)
    not-empty =
        let size = hand-size items hs n some all-dealt an-item.0 an-item.1 in
        let same = ap length is-hand in omega (arith, size, same)

    -- the last item of that hand is the last of all
    module _ (w : V) (y : A) (ends : f v ≡ f w ++ y ∷ []) where
      last : Some y ≡ Some an-item.0
      last =
          last-is items hs n some all-dealt an-item.0 an-item.1 (f w) y (is-hand ∙ ends)

      pub one-less : (after : List A) → after ≡ all ++ y ∷ []
          → AreLeft items (slice_set hands (n % size) w) after n
      one-less after pushed =
          record {
            few = let f = are_left.few in omega (arith, f, is);
            some =
                let same = length-set hands (n % size) w in
                let s = are_left.some in omega (arith, same, s);
            dealt =
                subst (AreDealt (take n items))
                (ap (λ m. slice_set hs (n % m) (f w)) many ∙ sym (map-set f hands (n % size) w))
                (still-dealt items hs n some all-dealt an-item.0 an-item.1 (f w) y
                (is-hand ∙ ends));
            are =
                pushed
                ∙ (ap (λ xs. xs ++ y ∷ []) are_left.are
                ∙ (ap (λ l. reverse (drop l items) ++ y ∷ []) is
                ∙ (sym (reverse_onto (drop (suc n) items) y [])
                ∙ sym (ap reverse (drop-one n items y (an-item.1 ∙ sym last))))));
          }
