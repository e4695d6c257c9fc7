-- Lists that are filled by places.
use Rattle.std.proofs.Common.{ℕ, zero, suc, ◌≡◌, ◌≢◌, ◌≤◌, ◌<◌, ◌+◌, ◌-◌, ◌⊎◌, List, [], ◌∷◌}
use Rattle.std.proofs.Common.{Option, Some, None, length, refl, ap, ◌∙◌, sym, arith, get_or, subst}
use Rattle.std.proofs.Common.{inl, inr, map, true, false}
use Rattle.std.specs.Prelude.{Bool, slice_set, nat_lt}
use Rattle.std.specs.Option.{option_map}
use Rattle.std.proofs.lemmas.Bool.{cases_eq, cases_lt, lt-ltb, le-ltb}
use Rattle.std.proofs.lemmas.List.{get_or-map, get_or-set_same, get_or-set_other, length-set}
use Rattle.steer_base.specs.Entries.{place_in}
use Rattle.history.specs.Finding.{Once}
use Rattle.history.proofs.SamePlaces.{Once-head, Once-tail, map_some, place-here, place-past}
use Rattle.history.proofs.SamePlaces.{same_lists, some_same}
use Rattle.report_reader.specs.Slots.{IsShelved, place_for, slot_of}
use Rattle.report_reader.specs.declared.slots.Kind.{Kind}
use Rattle.report_reader.specs.declared.slots.Seen.{Seen}
use Rattle.report_reader.specs.declared.slots.Slot.{Slot}

at-back : (x : ℕ) (xs : List ℕ) (m n : ℕ) → m ≡ n → get_or xs m 0 ≡ x → get_or xs n 0 ≡ x
at-back x xs m n e h = subst (λ k. get_or xs k 0 ≡ x) e h

-- a list has a packet at its place
pub place-at : (x p : ℕ) (xs : List ℕ) → place_in x xs ≡ Some p → (0 < p) × (p ≤ length xs)
    × (get_or xs (p - 1) 0 ≡ x)
place-at x p [] h = absurd (cc)
place-at x p (y ∷ ys) h = elim (cases_eq x y) [
  | inl e ↦
      let g : p ≡ 1 = some_same p 1 (sym h ∙ place-here x y ys e) in
      subst (λ q. (0 < q) × (q ≤ length (y ∷ ys)) × (get_or (y ∷ ys) (q - 1) 0 ≡ x)) (sym g)
      (omega arith, omega arith, sym e)
  | inr ne ↦
      let m = map_some suc (place_in x ys) p (sym (place-past x y ys ne) ∙ h) in
      let i = place-at x m.0 ys m.1 in
      let w : (0 < suc m.0) × (suc m.0 ≤ length (y ∷ ys))
      × (get_or (y ∷ ys) (suc m.0 - 1) 0 ≡ x) = (
        omega arith,
        omega (arith, i.1),
        at-back x (y ∷ ys) (suc (m.0 - 1)) (suc m.0 - 1)
            (omega (arith, i.0)) i.2,
      ) in
      subst (λ q. (0 < q) × (q ≤ length (y ∷ ys)) × (get_or (y ∷ ys) (q - 1) 0 ≡ x)) (sym m.2) w
]

-- what stands in a list has a place there
pub has-place : (xs : List ℕ) (j : ℕ) → j < length xs → place_in (get_or xs j 0) xs ≡ None → ⊥
has-place [] j l h = omega (arith, l)
has-place (y ∷ ys) zero l h = let f : place_in y (y ∷ ys) ≡ Some 1 = place-here y y ys refl in cc
has-place (y ∷ ys) (suc j) l h = elim (cases_eq (get_or ys j 0) y) [
  | inl e ↦ let f : place_in (get_or ys j 0) (y ∷ ys) ≡ Some 1 = place-here (get_or ys j 0) y ys e
      in absurd (cc)
  | inr ne ↦ has-place ys j (omega (arith, l)) (none-back (place_in (get_or ys j 0) ys)
      (sym (place-past (get_or ys j 0) y ys ne) ∙ h))
]
  where
    none-back : (o : Option ℕ) → option_map suc o ≡ None → o ≡ None
    none-back None e = refl
    none-back (Some k) e = absurd (cc)

-- 1 for what holds
abbrev one_if : Bool → ℕ
one_if true = 1
one_if false = 0

-- how many of a list are below a number
abbrev pub below : ℕ → List ℕ → ℕ
below x [] = 0
below x (y ∷ ys) = one_if (nat_lt y x) + below x ys

one-lt : (y x : ℕ) → y < x → one_if (nat_lt y x) ≡ 1
one-lt y x l = ap one_if (lt-ltb y x l)

one-ge : (y x : ℕ) → x ≤ y → one_if (nat_lt y x) ≡ 0
one-ge y x l = ap one_if (le-ltb y x l)

one-other : (y x : ℕ) → x ≢ y → one_if (nat_lt y (x + 1)) ≡ one_if (nat_lt y x)
one-other y x ne = elim (cases_lt y x) [
  | inl l ↦ one-lt y (x + 1) (omega (arith, l)) ∙ sym (one-lt y x l)
  | inr l ↦ one-ge y (x + 1) (omega (arith, l, ne)) ∙ sym (one-ge y x (omega (arith, l)))
]

none-suc : (o : Option ℕ) → option_map suc o ≡ None → o ≡ None
none-suc None e = refl
none-suc (Some k) e = absurd (cc)

pub below-lacks : (x : ℕ) (xs : List ℕ) → place_in x xs ≡ None → below (x + 1) xs ≡ below x xs
below-lacks x [] h = refl
below-lacks x (y ∷ ys) h = elim (cases_eq x y) [
  | inl e ↦ let f : place_in x (y ∷ ys) ≡ Some 1 = place-here x y ys e in absurd (cc)
  | inr ne ↦
      let a = one-other y x ne in
      let b = below-lacks x ys (none-suc (place_in x ys) (sym (place-past x y ys ne) ∙ h)) in
      omega (arith, a, b)
]

pub below-has : (x p : ℕ) (xs : List ℕ) → Once xs → place_in x xs ≡ Some p
    → below (x + 1) xs ≡ below x xs + 1
below-has x p [] o h = absurd (cc)
below-has x p (y ∷ ys) o h = elim (cases_eq x y) [
  | inl e ↦
      let a = one-lt y (x + 1) (omega (arith, e)) in
      let b = one-ge y x (omega (arith, e)) in
      let n : place_in x ys ≡ None = ap (λ k. place_in k ys) e ∙ Once-head y ys o in
      let d = below-lacks x ys n in omega (arith, a, b, d)
  | inr ne ↦
      let m = map_some suc (place_in x ys) p (sym (place-past x y ys ne) ∙ h) in
      let a = one-other y x ne in
      let d = below-has x m.0 ys (Once-tail y ys o) m.1 in omega (arith, a, d)
]

pub below-none : (xs : List ℕ) → below 0 xs ≡ 0
below-none [] = refl
below-none (y ∷ ys) = let a = one-ge y 0 (omega arith) in let b = below-none ys in
    omega (arith, a, b)

pub below-all : (n : ℕ) (xs : List ℕ) → ((j : ℕ) → j < length xs → get_or xs j 0 < n)
    → below n xs ≡ length xs
below-all n [] h = refl
below-all n (y ∷ ys) h =
    let a = one-lt y n (h 0 (omega arith)) in
    let b = below-all n ys (λ j l. h (suc j) (omega (arith, l))) in omega (arith, a, b)

module _ (start : ℕ) (kind : Kind) (seen : List Seen) (number : ℕ) (list : List ℕ)
    (s : IsShelved start kind seen number list) where
  pub shelved-below : (j : ℕ) → j < length list → get_or list j 0 < length seen
  shelved-below j l = elim (cases_lt (get_or list j 0) (length seen)) [
    | inl k ↦ k
    | inr k ↦ absurd (has-place list j l (s.within (get_or list j 0) (omega (arith, k))))
  ]

  pub count-has : (x p : ℕ) (d : Seen) → x < length seen
      → place_for number (slot_of start kind (get_or seen x d)) ≡ Some p
      → below (x + 1) list ≡ below x list + 1
  count-has x p d l e = below-has x p list s.once (s.places x d l ∙ e)

  pub count-lacks : (x : ℕ) (d : Seen) → x < length seen
      → place_for number (slot_of start kind (get_or seen x d)) ≡ None
      → below (x + 1) list ≡ below x list
  count-lacks x d l e = below-lacks x list (s.places x d l ∙ e)

  pub count-all : below (length seen) list ≡ length list
  count-all = below-all (length seen) list shelved-below

-- So much of a list is built that each packet below x stands at its place.
pub record IsUpTo (x : ℕ) (built list : List ℕ) : Type 0 where
  pub long : length built ≡ length list
  pub has : (j : ℕ) → j < length list → get_or list j 0 < x → get_or built j 0 ≡ get_or list j 0

pub up-none : (built list : List ℕ) → length built ≡ length list → IsUpTo 0 built list
up-none built list e = record { long = e; has = λ j l s. absurd (omega (arith, s)) }

pub up-lacks : (x : ℕ) (built list : List ℕ) → place_in x list ≡ None → IsUpTo x built list
    → IsUpTo (x + 1) built list
up-lacks x built list n u = record {
  long = u.long;
  has = λ j l s. elim (cases_eq (get_or list j 0) x) [
    | inl e ↦ absurd (has-place list j l (ap (λ k. place_in k list) e ∙ n))
    | inr ne ↦ u.has j l (omega (arith, s, ne))
  ];
}

pub up-has : (x p : ℕ) (built list : List ℕ) → Once list → place_in x list ≡ Some p
    → IsUpTo x built list
    → IsUpTo (x + 1) (slice_set built (p - 1) x) list
up-has x p built list once h u =
    let a = place-at x p list h in
    let n : length (slice_set built (p - 1) x) ≡ length built = length-set built (p - 1) x in
    let i : p - 1 < length built = omega (arith, a.0, a.1, u.long) in
    record {
      long = n ∙ u.long;
      has = λ j l s. elim (cases_eq j (p - 1)) [
        | inl e ↦
            ap (λ k. get_or (slice_set built (p - 1) x) k 0) e ∙ get_or-set_same built (p - 1) x 0 i
            ∙ sym a.2
            ∙ sym (ap (λ k. get_or list k 0) e)
        | inr ne ↦
            let k : p - 1 < length list = omega (arith, a.0, a.1) in
            let other : get_or list j 0 ≢ x = λ e. ne (once j (p - 1) l k (e ∙ sym a.2)) in
            get_or-set_other built (p - 1) j x 0 ne ∙ u.has j l (omega (arith, s, other))
      ];
    }

pub up-all : (n : ℕ) (built list : List ℕ) → ((j : ℕ) → j < length list → get_or list j 0 < n)
    → IsUpTo n built list → built ≡ list
up-all n built list low u =
    same_lists 0 built list u.long (λ j l. let k : j < length list = omega (arith, l, u.long) in
    u.has j k (low j k))

some-or-none : (o : Option ℕ) → ((p : ℕ) × (o ≡ Some p)) ⊎ (o ≡ None)
some-or-none None = inr refl
some-or-none (Some p) = inl (p, refl)

module _ (start : ℕ) (kind : Kind) (seen : List Seen) (number : ℕ) (list : List ℕ)
    (s : IsShelved start kind seen number list)
    (x : ℕ) (v : Seen) (l : x < length seen) (is : get_or seen x v ≡ v) where
  at-x : (o : Option ℕ) → o ≡ place_for number (slot_of start kind v) → place_in x list ≡ o
  at-x o e = s.places x v l ∙ ap (λ w. place_for number (slot_of start kind w)) is ∙ sym e

  pub count-step : (o : Option ℕ) → o ≡ place_for number (slot_of start kind v) → (k : ℕ)
      → (o ≡ None → k ≡ 0)
      → ((p : ℕ) → o ≡ Some p → k ≡ 1) → below (x + 1) list ≡ below x list + k
  count-step o e k n m = elim (some-or-none o) [
    | inl p ↦
        let a = below-has x p.0 list s.once (at-x o e ∙ p.1) in let b = m p.0 p.1 in
        omega (arith, a, b)
    | inr z ↦
        let a = below-lacks x list (at-x o e ∙ z) in let b = n z in omega (arith, a, b)
  ]

  pub up-step : (o : Option ℕ) → o ≡ place_for number (slot_of start kind v) → (old new : List ℕ)
      → ((p : ℕ) → o ≡ Some p → 0 < p → p ≤ length old → new ≡ slice_set old (p - 1) x)
      → (o ≡ None → new ≡ old)
      → IsUpTo x old list → IsUpTo (x + 1) new list
  up-step o e old new set same u = elim (some-or-none o) [
    | inl p ↦
        let h : place_in x list ≡ Some p.0 = at-x o e ∙ p.1 in
        let a = place-at x p.0 list h in
        let f : new ≡ slice_set old (p.0 - 1) x = set p.0 p.1 a.0 (omega (arith, a.1, u.long)) in
        subst (λ w. IsUpTo (x + 1) w list) (sym f) (up-has x p.0 old list s.once h u)
    | inr z ↦
        subst (λ w. IsUpTo (x + 1) w list) (sym (same z)) (up-lacks x old list (at-x o e ∙ z) u)
  ]

-- the lines of a packet
pub line-at : (seen : List Seen) (x : ℕ) → x < length seen → (v : Seen) × (get_or seen x v ≡ v)
line-at [] x l = absurd (omega (arith, l))
line-at (v ∷ vs) zero l = (v, refl)
line-at (v ∷ vs) (suc x) l = line-at vs x (omega (arith, l))

-- where a packet stands is where its lines show it
pub slot-at : (start : ℕ) (kind : Kind) (seen : List Seen) (slots : List (Option Slot)) (x : ℕ)
    (v : Seen) (slot d : Option Slot) → slots ≡ map (slot_of start kind) seen → x < length seen
    → get_or seen x v ≡ v → slot ≡ get_or slots x d → slot ≡ slot_of start kind v
slot-at start kind seen slots x v slot d e l is at =
    at ∙ ap (λ all. get_or all x d) e ∙ get_or-map (slot_of start kind) seen x v d l
    ∙ ap (slot_of start kind) is
