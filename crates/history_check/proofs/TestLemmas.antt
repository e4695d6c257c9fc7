-- What the words of the test of a history tell: of each item of a list, of a place, of a number,
-- and of a beginning.
use Rattle.std.proofs.Common.{ℕ, ◌+◌, ◌-◌, ◌<◌, ◌≤◌, ◌≡◌, Bool, true, false, List, [], ◌∷◌, ◌++◌}
use Rattle.std.proofs.Common.{Option, Some, None, map, length, refl, ap, ◌∙◌, sym, arith, suc, zero}
use Rattle.std.proofs.Common.{inl, inr, get_or, subst}
use Rattle.std.specs.Prelude.{◌==◌, ◌&&◌}
use Rattle.std.specs.List.{list_all, enumerate_from, range_with_len}
use Rattle.std.specs.Option.{option_map, option_or, is_some}
use Rattle.std.proofs.Math.ListN.{get_or-append, get_or-eq_default}
use Rattle.std.proofs.lemmas.Bool.{and_parts, cases_eq, cases_lt, eqb-true}
use Rattle.std.proofs.lemmas.List.{get_or-append_right, get_or-map, length-append, length-map}
use Rattle.std.proofs.lemmas.List.FromFn.{get_or-range_with_len, length-range_with_len}
use Rattle.std.proofs.lemmas.List.Sums.{AllPass-from_list_all}
use Rattle.steer_base.specs.Orders.{Apart, IsPrefix}
use Rattle.history.specs.Finding.{is_in, first_some, Once}
use Rattle.history.specs.Lists.{list_at}
use Rattle.history_check.specs.Tests.{each, is_number, is_place, begins}
use Rattle.history.proofs.FindingLemmas.{is_in-past}

-- each item of a list that passes passes, with its index
each-from : {A : Type 0} (test : ℕ → A → Bool) (n i m : ℕ) (xs : List A) (d : A)
    → list_all (λ p. test p.0 p.1) (enumerate_from n xs) ≡ true → i < length xs → n + i ≡ m
    → test m (get_or xs i d) ≡ true
each-from test n i m [] d e l f = absurd (omega arith)
each-from test n zero m (x ∷ xs) d e l f =
    let g : n ≡ m = omega arith in
    subst (λ k. test k x ≡ true) g (and_parts (test n x) (list_all (λ p. test p.0 p.1)
    (enumerate_from (n + 1) xs)) e).0
each-from test n (suc i) m (x ∷ xs) d e l f =
    each-from test (n + 1) i m xs d (and_parts (test n x) (list_all (λ p. test p.0 p.1)
    (enumerate_from (n + 1) xs)) e).1 (omega arith) (omega arith)

pub each-at : {A : Type 0} (test : ℕ → A → Bool) (xs : List A) (i : ℕ) (d : A) → each test xs ≡ true
    → i < length xs → test i (get_or xs i d) ≡ true
each-at test xs i d e l = each-from test 0 i i xs d e l (omega arith)

-- a test of the keys of items is one of the list of the keys
each-keys : {A B : Type 0} (test : ℕ → B → Bool) (key : A → B) (n : ℕ) (xs : List A)
    → list_all (λ p. test p.0 (key p.1)) (enumerate_from n xs) ≡ list_all (λ p. test p.0 p.1)
    (enumerate_from n (map key xs))
each-keys test key n [] = refl
each-keys test key n (x ∷ xs) = ap (λ b. test n (key x) && b) (each-keys test key (n + 1) xs)

pub each-map : {A B : Type 0} (test : ℕ → B → Bool) (key : A → B) (xs : List A)
    → each (λ i a. test i (key a)) xs ≡ each test (map key xs)
each-map test key xs = each-keys test key 0 xs

-- each number below n passes
pub below-range : (test : ℕ → Bool) (n i : ℕ) → list_all test (range_with_len 0 n) ≡ true → i < n
    → test i ≡ true
below-range test n i e l =
    let k : i < length (range_with_len 0 n) = omega (arith, length-range_with_len 0 n) in
    let z : get_or (range_with_len 0 n) i 0 ≡ i = get_or-range_with_len 0 n i 0 l ∙ (omega arith) in
    subst (λ m. test m ≡ true) z (AllPass-from_list_all test (range_with_len 0 n) e i 0 k)

-- numbers that are each that of their index count from the first
numbers-from : {A : Type 0} (key : A → ℕ) (n : ℕ) (xs : List A) → list_all (λ p. key p.1 == p.0)
    (enumerate_from n xs) ≡ true → map key xs ≡ range_with_len n (length xs)
numbers-from key n [] e = refl
numbers-from key n (x ∷ xs) e =
    let w = and_parts (key x == n) (list_all (λ p. key p.1 == p.0) (enumerate_from (n + 1) xs)) e in
    let f : key x ≡ n = eqb-true (key x) n w.0 in
    rw (f, numbers-from key (n + 1) xs w.1) refl

pub numbers-of : {A : Type 0} (key : A → ℕ) (xs : List A) → each (λ i a. key a == i) xs ≡ true
    → map key xs ≡ range_with_len 0 (length xs)
numbers-of key xs e = numbers-from key 0 xs e

-- a number or a place that is there and this one
pub number-is : (o : Option ℕ) (n : ℕ) → is_number o n ≡ true → o ≡ Some n
number-is None n e = absurd (cc)
number-is (Some k) n e = ap (λ m. Some m) (eqb-true k n e)

pub place-is : (o : Option ℕ) (i : ℕ) → is_place o i ≡ true → o ≡ Some (i + 1)
place-is None i e = absurd (cc)
place-is (Some k) i e = ap (λ m. Some m) (eqb-true k (i + 1) e)

-- one number, or one place, is of one index
pub same-number : (o : Option ℕ) (m n : ℕ) → is_number o m ≡ true → is_number o n ≡ true → m ≡ n
same-number o m n e f = let a : o ≡ Some m = number-is o m e in let b : o ≡ Some n =
    number-is o n f in cc

pub same-place : (o : Option ℕ) (i j : ℕ) → is_place o i ≡ true → is_place o j ≡ true → i ≡ j
same-place o i j e f =
    let a : o ≡ Some (i + 1) = place-is o i e in
    let b : o ≡ Some (j + 1) = place-is o j f in
    let c : i + 1 ≡ j + 1 = cc in
    omega arith

-- a place of something is there where the thing is
pub some-place : {A : Type 0} (f : A → ℕ) (o : Option A) (i : ℕ)
    → is_place (option_map f o) i ≡ true → is_some o ≡ true
some-place f None i e = absurd (cc)
some-place f (Some a) i e = refl

-- what has this number is there
pub mapped-is : {A : Type 0} (f : A → ℕ) (o : Option A) (n : ℕ) → is_number
    (option_map f o) n ≡ true → (a : A) × (o ≡ Some a) × (f a ≡ n)
mapped-is f None n e = absurd (cc)
mapped-is f (Some a) n e = (a, refl, eqb-true (f a) n e)

-- where ys begins with xs, xs is a prefix of it
pub begins-prefix : (xs ys : List ℕ) → begins xs ys ≡ true → IsPrefix xs ys
begins-prefix [] ys e = (ys, refl)
begins-prefix (x ∷ xs) [] e = absurd (cc)
begins-prefix (x ∷ xs) (y ∷ ys) e =
    let w = and_parts (x == y) (begins xs ys) e in
    let f : x ≡ y = eqb-true x y w.0 in
    let p = begins-prefix xs ys w.1 in
    (p.0, ap (λ n. n ∷ (xs ++ p.0)) f ∙ ap (λ l. y ∷ l) p.1)

-- what is in a list has an index there
pub index-in : (x : ℕ) (xs : List ℕ) → is_in x xs ≡ true → (i : ℕ) × (i < length xs)
    × (get_or xs i 0 ≡ x)
index-in x [] e = absurd (cc)
index-in x (y ∷ ys) e =
    elim (cases_eq x y) [
      | inl t ↦ (0, omega arith, sym t)
      | inr ne ↦ let w = index-in x ys (sym (is_in-past x y ys ne) ∙ e) in
          (suc w.0, omega (arith, w.1), w.2)
    ]

-- so has what is in a list that is read from some items, and the list is one of theirs
pub index-of : {B : Type 0} (of : B → List ℕ) (items : List B) (d : B) (c x : ℕ) → of d ≡ []
    → is_in x (of (get_or items c d)) ≡ true
    → (c < length items) × ((i : ℕ) × (i < length (of (get_or items c d)))
    × (get_or (of (get_or items c d)) i 0 ≡ x))
index-of of items d c x n e =
    elim (cases_lt c (length items)) [
      | inl l ↦ (l, index-in x (of (get_or items c d)) e)
      | inr l ↦ let f : is_in x (of (get_or items c d)) ≡ false =
          ap (λ b. is_in x (of b)) (get_or-eq_default items d l) ∙ ap (is_in x) n in absurd (cc)
    ]

-- what the first of some lists has, one of them has
pub first-at : {A B : Type 0} (look : A → Option B) (xs : List A) (d : A) (b : B)
    → first_some look xs ≡ Some b → (i : ℕ) × (i < length xs) × (look (get_or xs i d) ≡ Some b)
first-at look [] d b e = absurd (cc)
first-at look (x ∷ xs) d b e =
    elim (look x) as (λ o. look x ≡ o → option_or o (first_some look xs) ≡ Some b → (i : ℕ)
    × (i < length (x ∷ xs)) × (look (get_or (x ∷ xs) i d) ≡ Some b)) [
      | None ↦ λ f g. let w = first-at look xs d b g in (suc w.0, omega (arith, w.1), w.2)
      | Some a ↦ λ f g. (0, omega arith, f ∙ g)
    ] refl e

pub some-at : {A B : Type 0} (look : A → Option B) (xs : List A) (d : A)
    → is_some (first_some look xs) ≡ true → (i : ℕ) × (i < length xs)
    × (is_some (look (get_or xs i d)) ≡ true)
some-at look xs d e =
    elim (first_some look xs) as (λ o. first_some look xs ≡ o → is_some o ≡ true → (i : ℕ)
    × (i < length xs) × (is_some (look (get_or xs i d)) ≡ true)) [
      | None ↦ λ f g. absurd (cc)
      | Some b ↦ λ f g. let w = first-at look xs d b f in (w.0, w.1, ap is_some w.2)
    ] refl e

-- each member names its index
pub once-named : (xs : List ℕ) (place : ℕ → Option ℕ) → ((i : ℕ) → i < length xs
    → is_place (place (get_or xs i 0)) i ≡ true) → Once xs
once-named xs place h i j k l e = same-place (place (get_or xs j 0)) i j
    (subst (λ x. is_place (place x) i ≡ true) e (h i k)) (h j l)

-- each member of a list names the list, by its number p, and its index
abbrev pub Named : (ℕ → Option ℕ) → (ℕ → Option ℕ) → ℕ → List ℕ → Type 0
Named own place p xs = (i : ℕ) → i < length xs → (is_number (own (get_or xs i 0)) p ≡ true)
    × (is_place (place (get_or xs i 0)) i ≡ true)

-- lists whose members name them, read from some items
pub apart-named : {B : Type 0} (of : B → List ℕ) (items : List B) (d : B) (own place : ℕ → Option ℕ)
    → ((p : ℕ) → p < length items → Named own place p (of (get_or items p d)))
    → Apart (map of items)
apart-named of items d own place h p q i j a b k l e =
    let m = length-map items of in
    let named = λ (r : ℕ) (below : r < length (map of items)).
    let s : r < length items = omega (arith, m) in subst (Named own place r)
    (sym (get_or-map of items r d [] s)) (h r s) in
    let left = named p a i k in
    let right = named q b j l in
    let y = get_or (list_at (map of items) q) j 0 in (
      same-number (own y) p q (subst (λ x. is_number (own x) p ≡ true) e left.0) right.0,
      same-place (place y) i j (subst (λ x. is_place (place x) i ≡ true) e left.1) right.1,
    )

-- two joined lists of lists, with no member of both
module _ (lists more : List (List ℕ)) (apart : Apart lists) (apart_more : Apart more)
    (none : (p q i j : ℕ) → p < length lists → q < length more → i < length (list_at lists p)
    → j < length (list_at more q) → get_or (list_at lists p) i 0 ≡ get_or (list_at more q) j 0
    → ⊥) where
  left-at : (p : ℕ) → p < length lists → list_at (lists ++ more) p ≡ list_at lists p
  left-at p l = get_or-append lists more [] p l

  right-at : (p : ℕ) → length lists ≤ p → list_at (lists ++ more) p ≡ list_at more
      (p - length lists)
  right-at p l = get_or-append_right lists more (length lists) p [] refl l

  pub apart-joined : Apart (lists ++ more)
  apart-joined p q i j a b k l e =
      let n : length (lists ++ more) ≡ length lists + length more = length-append lists more in
      elim (cases_lt p (length lists)) [
        | inl s ↦ elim (cases_lt q (length lists)) [
          | inl t ↦
              apart p q i j s t (rw (left-at p s) at k) (rw (left-at q t) at l)
              (rw (left-at p s, left-at q t) at e)
          | inr t ↦
              absurd (none p (q - length lists) i j s (omega arith) (rw (left-at p s) at k)
              (rw (right-at q t) at l) (rw (left-at p s, right-at q t) at e))
        ]
        | inr s ↦ elim (cases_lt q (length lists)) [
          | inl t ↦
              absurd (none q (p - length lists) j i t (omega arith) (rw (left-at q t) at l)
              (rw (right-at p s) at k) (sym (rw (right-at p s, left-at q t) at e)))
          | inr t ↦
              let w = apart_more (p - length lists) (q - length lists) i j (omega arith)
              (omega arith) (rw (right-at p s) at k) (rw (right-at q t) at l)
              (rw (right-at p s, right-at q t) at e) in
              (omega (arith, w.0), w.1)
        ]
      ]
