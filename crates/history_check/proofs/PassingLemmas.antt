-- How the tests of a history come to pass: each item by what holds at its index, a list by its
-- first items, and a packet by its one place.
use Rattle.std.proofs.Common.{ℕ, ◌+◌, ◌<◌, ◌≡◌, ◌≢◌, Bool, true, false, List, [], ◌∷◌, ◌++◌, Option}
use Rattle.std.proofs.Common.{Some, None, map, length, refl, ap, ◌∙◌, sym, arith, suc, zero, inl}
use Rattle.std.proofs.Common.{inr, get_or, subst}
use Rattle.std.specs.Prelude.{◌==◌}
use Rattle.std.specs.List.{list_all, enumerate_from, range_with_len}
use Rattle.std.specs.Option.{option_map, option_and_then, is_some}
use Rattle.std.proofs.Math.ListN.{get_or-append, get_or-eq_default}
use Rattle.std.proofs.lemmas.Bool.{and_from, cases_lt, eq-eqb}
use Rattle.std.proofs.lemmas.List.{get_or-append-add, get_or-map, get_or_default, length-append}
use Rattle.std.proofs.lemmas.List.{length-map}
use Rattle.std.proofs.lemmas.List.Folds.{list_all_at}
use Rattle.std.proofs.lemmas.List.FromFn.{get_or-range_with_len, length-range_with_len}
use Rattle.std.proofs.lemmas.List.Sums.{list_all-from_AllPass}
use Rattle.steer_base.specs.Entries.{place_in}
use Rattle.steer_base.specs.Orders.{Apart, IsPrefix}
use Rattle.history.specs.Finding.{is_in, first_some, Once}
use Rattle.history.specs.Lists.{list_at}
use Rattle.history_check.specs.Tests.{begins, each, is_number, is_place}
use Rattle.history.proofs.BoundLemmas.{in-index}
use Rattle.history.proofs.OwnLemmas.{own-first}
use Rattle.history.proofs.SamePlaces.{front_or, rear, place-here, place-index, place-past}
use Rattle.history.proofs.SamePlaces.{Once-tail}

-- Lists whose items all pass.
each-onwards : {A : Type 0} (test : ℕ → A → Bool) (n : ℕ) (xs : List A)
    → ((i : ℕ) (d : A) → i < length xs → test (n + i) (get_or xs i d) ≡ true)
    → list_all (λ p. test p.0 p.1) (enumerate_from n xs) ≡ true
each-onwards test n [] h = refl
each-onwards test n (x ∷ xs) h =
    let here : n + 0 ≡ n = omega arith in
    let first : test n x ≡ true = subst (λ m. test m x ≡ true) here (h 0 x (omega arith)) in
    let rest : list_all (λ p. test p.0 p.1) (enumerate_from (n + 1) xs) ≡ true =
    each-onwards test (n + 1) xs (λ i d l.
    let next : n + suc i ≡ n + 1 + i = omega arith in
    subst (λ m. test m (get_or xs i d) ≡ true) next (h (suc i) d (omega arith))) in
    and_from (test n x) (list_all (λ p. test p.0 p.1) (enumerate_from (n + 1) xs)) first rest

pub each-from : {A : Type 0} (test : ℕ → A → Bool) (xs : List A) → ((i : ℕ) (d : A) → i < length xs
    → test i (get_or xs i d) ≡ true) → each test xs ≡ true
each-from test xs h =
    each-onwards test 0 xs (λ i d l.
    let same : i ≡ 0 + i = omega arith in
    subst (λ m. test m (get_or xs i d) ≡ true) same (h i d l))

-- the same, read with one item that stands for what is beyond the list
pub each-at : {A : Type 0} (test : ℕ → A → Bool) (xs : List A) (d : A) → ((i : ℕ) → i < length xs
    → test i (get_or xs i d) ≡ true) → each test xs ≡ true
each-at test xs d h = each-from test xs (λ i e l. subst (λ x. test i x ≡ true)
    (get_or_default xs i d e l) (h i l))

pub all-at : {A : Type 0} (test : A → Bool) (xs : List A) (d : A) → ((i : ℕ) → i < length xs
    → test (get_or xs i d) ≡ true) → list_all test xs ≡ true
all-at test xs d h = list_all-from_AllPass test xs (λ i e l. subst (λ x. test x ≡ true)
    (get_or_default xs i d e l) (h i l))

pub all-below : (test : ℕ → Bool) (n : ℕ) → ((i : ℕ) → i < n → test i ≡ true) → list_all test
    (range_with_len 0 n) ≡ true
all-below test n h =
    all-at test (range_with_len 0 n) 0 (λ i l.
    let below : i < n = omega (arith, length-range_with_len 0 n) in
    let same : i ≡ get_or (range_with_len 0 n) i 0 =
    omega (arith, get_or-range_with_len 0 n i 0 below) in
    subst (λ m. test m ≡ true) same (h i below))

-- one number that fails
pub fails-below : (test : ℕ → Bool) (n q : ℕ) → q < n → test q ≡ false → list_all test
    (range_with_len 0 n) ≡ false
fails-below test n q l e =
    let at : get_or (range_with_len 0 n) q 0 ≡ q = omega (arith, get_or-range_with_len 0 n q 0 l) in
    list_all_at test (range_with_len 0 n) q 0 (omega (arith, length-range_with_len 0 n))
    (ap test at ∙ e)

-- Numbers and places that are there.
pub number-from : (o : Option ℕ) (n : ℕ) → o ≡ Some n → is_number o n ≡ true
number-from o n e = rw e (eq-eqb n n refl)

pub place-from : (o : Option ℕ) (i : ℕ) → o ≡ Some (i + 1) → is_place o i ≡ true
place-from o i e = rw e (eq-eqb (i + 1) (i + 1) refl)

-- A list that begins with another.
pub begins-from : (xs ys : List ℕ) → IsPrefix xs ys → begins xs ys ≡ true
begins-from [] ys p = refl
begins-from (x ∷ xs) [] p = absurd (let f : x ∷ (xs ++ p.0) ≡ [] = p.1 in cc)
begins-from (x ∷ xs) (y ∷ ys) p = and_from (x == y) (begins xs ys)
    (eq-eqb x y (ap (front_or 0) p.1)) (begins-from xs ys (p.0, ap rear p.1))

-- Packets in lists.
pub is_in-key : {A : Type 0} (key : A → ℕ) (xs : List A) (i : ℕ) (d : A) → i < length xs
    → is_in (key (get_or xs i d)) (map key xs) ≡ true
is_in-key key xs i d l =
    let within : i < length (map key xs) = omega (arith, length-map xs key) in
    subst (λ x. is_in x (map key xs) ≡ true) (get_or-map key xs i d 0 l)
    (in-index (map key xs) i within)

-- the place of the item at an index, where no packet stands twice
pub place-at : (xs : List ℕ) (i : ℕ) → Once xs → i < length xs → place_in (get_or xs i 0) xs ≡ Some
    (i + 1)
place-at [] i once l = absurd (omega arith)
place-at (x ∷ xs) zero once l = place-here x x xs refl
place-at (x ∷ xs) (suc i) once l =
    let other : get_or xs i 0 ≢ x = λ e. let f : suc i ≡ 0 = once (suc i) 0 l (omega arith) e in
    omega arith in
    let next : suc (i + 1) ≡ suc i + 1 = omega arith in
    place-past (get_or xs i 0) x xs other ∙ ap (λ o. option_map suc o)
    (place-at xs i (Once-tail x xs once) (omega arith)) ∙ ap (λ n. Some n) next

-- what has a packet is one of the lists
pub list-there : (lists : List (List ℕ)) (p x : ℕ) → is_in x (list_at lists p) ≡ true
    → p < length lists
list-there lists p x s =
    elim (cases_lt p (length lists)) [
      | inl l ↦ l
      | inr l ↦ let f : is_in x [] ≡ true = subst (λ ys. is_in x ys ≡ true)
          (get_or-eq_default lists [] l) s in absurd (cc)
    ]

-- where no packet stands twice in some lists and some others, none is in one of these and one of
-- those
pub apart-parts : (lists others : List (List ℕ)) (p q x : ℕ) → Apart (lists ++ others)
    → is_in x (list_at lists p) ≡ true → is_in x (list_at others q) ≡ true → ⊥
apart-parts lists others p q x apart s t =
    let a : p < length lists = list-there lists p x s in
    let b : q < length others = list-there others q x t in
    let n : length (lists ++ others) ≡ length lists + length others = length-append lists others in
    let left : list_at (lists ++ others) p ≡ list_at lists p = get_or-append lists others [] p a in
    let right : list_at (lists ++ others) (length lists + q) ≡ list_at others q =
    get_or-append-add lists others q [] in
    let u = place-index x (list_at lists p) s in
    let v = place-index x (list_at others q) t in
    let same = apart p (length lists + q) u.0 v.0 (omega arith) (omega arith)
    (subst (λ ys. u.0 < length ys) (sym left) u.1) (subst (λ ys. v.0 < length ys) (sym right) v.1)
    (ap (λ ys. get_or ys u.0 0) left ∙ u.2 ∙ sym v.2 ∙ sym (ap (λ ys. get_or ys v.0 0) right)) in
    omega (arith, same.0)

-- what the first of some lists has is what the own one has
pub own-at : {B T : Type 0} (look : B → Option T) (d : B) (xs : List B) (o : Option ℕ) (c : ℕ)
    → look d ≡ None
    → ((i : ℕ) → is_some (look (get_or xs i d)) ≡ true → o ≡ Some i) → o ≡ Some c
    → first_some look xs ≡ look (get_or xs c d)
own-at look d xs o c n h e = own-first look d xs o n h
    ∙ ap (λ p. option_and_then (λ i. look (get_or xs i d)) p) e
