-- Lists in which each number has the same place, or each key the same item, are equal.
use Rattle.std.proofs.Common.{ℕ, zero, suc, ◌≤◌, ◌<◌, ◌≡◌, ◌≢◌, true, false, List, [], ◌∷◌, ◌++◌}
use Rattle.std.proofs.Common.{Option, Some, None, map, length, refl, ap, ◌∙◌, sym, arith, inl, inr}
use Rattle.std.proofs.Common.{get_or, subst}
use Rattle.std.specs.Option.{option_map, is_some}
use Rattle.std.proofs.lemmas.Bool.{cases_eq, ne_eqb, eq-eqb}
use Rattle.steer_base.specs.Entries.{place_in}
use Rattle.steer_base.specs.Orders.{IsPrefix}
use Rattle.history.specs.Finding.{is_in, found, Once}
use Rattle.history.proofs.FindingLemmas.{is_some-suc, found-here, found-past}
use Rattle.history.proofs.OwnLemmas.{none-unless}
use Rattle.history.proofs.RegularLemmas.{is_some-found}

abbrev pub front_or : {A : Type 0} → A → List A → A
front_or d [] = d
front_or d (x ∷ xs) = x

abbrev pub rear : {A : Type 0} → List A → List A
rear [] = []
rear (x ∷ xs) = xs

abbrev some_or : {A : Type 0} → A → Option A → A
some_or d None = d
some_or d (Some a) = a

pub some_same : {A : Type 0} (a b : A) → Some a ≡ Some b → a ≡ b
some_same a b e = ap (some_or a) e

-- an option with no value
pub no_value : {A : Type 0} (o : Option A) → ((a : A) → o ≡ Some a → ⊥) → o ≡ None
no_value None h = refl
no_value (Some a) h = absurd (h a refl)

pub map_some : {A B : Type 0} (f : A → B) (o : Option A) (b : B) → option_map f o ≡ Some b → (a : A)
    × (o ≡ Some a) × (b ≡ f a)
map_some f None b h = absurd (cc)
map_some f (Some a) b h = (a, refl, sym (some_same (f a) b h))

none_suc : (o : Option ℕ) → option_map suc o ≡ None → o ≡ None
none_suc None e = refl
none_suc (Some n) e = absurd (cc)

same_suc : (o p : Option ℕ) → option_map suc o ≡ option_map suc p → o ≡ p
same_suc None None e = refl
same_suc None (Some n) e = absurd (cc)
same_suc (Some m) None e = absurd (cc)
same_suc (Some m) (Some n) e = let f : suc m ≡ suc n = cc in let g : m ≡ n = omega (arith, f) in
    ap (λ k. Some k) g

-- The place of a number in a list with one more in front.
pub place-here : (x y : ℕ) (ys : List ℕ) → x ≡ y → place_in x (y ∷ ys) ≡ Some 1
place-here x y ys e = rw (eq-eqb x y e) refl

pub place-past : (x y : ℕ) (ys : List ℕ) → x ≢ y → place_in x (y ∷ ys) ≡ option_map suc
    (place_in x ys)
place-past x y ys ne = rw (ne_eqb x y ne) refl

pub no_place : (x : ℕ) (xs : List ℕ) → is_in x xs ≡ false → place_in x xs ≡ None
no_place x xs h = none-unless (place_in x xs) h

-- a place is one of the list's
pub place-bounds : (x : ℕ) (xs : List ℕ) (n : ℕ) → place_in x xs ≡ Some n → (0 < n)
    × (n ≤ length xs)
place-bounds x [] n h = absurd (cc)
place-bounds x (y ∷ ys) n h = elim (cases_eq x y) [
  | inl e ↦ let g : n ≡ 1 = some_same n 1 (sym h ∙ place-here x y ys e) in
      (omega (arith, g), omega (arith, g))
  | inr ne ↦
      let m = map_some suc (place_in x ys) n (sym (place-past x y ys ne) ∙ h) in
      let i = place-bounds x ys m.0 m.1 in
      (omega (arith, m.2, i.0), omega (arith, m.2, i.1))
]

-- at the place of a number the list has it
pub place-index : (x : ℕ) (xs : List ℕ) → is_in x xs ≡ true → (i : ℕ) × (i < length xs)
    × (get_or xs i 0 ≡ x)
place-index x [] h = absurd (cc)
place-index x (y ∷ ys) h = elim (cases_eq x y) [
  | inl e ↦ (0, omega arith, sym e)
  | inr ne ↦
      let w = place-index x ys (sym (is_some-suc (place_in x ys))
      ∙ sym (ap is_some (place-past x y ys ne)) ∙ h) in
      (suc w.0, omega (arith, w.1), w.2)
]

-- what no index has is not in the list
place-nowhere : (x : ℕ) (xs : List ℕ) → ((j : ℕ) → j < length xs → get_or xs j 0 ≢ x)
    → place_in x xs ≡ None
place-nowhere x [] h = refl
place-nowhere x (y ∷ ys) h =
    let ne : x ≢ y = λ e. h 0 (omega arith) (sym e) in
    let i : place_in x ys ≡ None = place-nowhere x ys (λ j l. h (suc j) (omega arith)) in
    rw (ne_eqb x y ne, i) refl

-- a number that is not in a list is not in a front of it
pub lacks-front : (x : ℕ) (xs ys : List ℕ) → place_in x (xs ++ ys) ≡ None → place_in x xs ≡ None
lacks-front x [] ys h = refl
lacks-front x (y ∷ rest) ys h = elim (cases_eq x y) [
  | inl e ↦ let f : place_in x (y ∷ (rest ++ ys)) ≡ Some 1 = place-here x y (rest ++ ys) e in
      absurd (cc)
  | inr ne ↦
      let f : place_in x (y ∷ (rest ++ ys)) ≡ option_map suc (place_in x (rest ++ ys)) =
      place-past x y (rest ++ ys) ne in
      let g : place_in x rest ≡ None = lacks-front x rest ys (none_suc (place_in x (rest ++ ys))
      (sym f ∙ h)) in
      place-past x y rest ne ∙ ap (λ o. option_map suc o) g
]

-- Lists without repeats.
pub Once-tail : (x : ℕ) (xs : List ℕ) → Once (x ∷ xs) → Once xs
Once-tail x xs h = λ i j k l e. let f : suc i ≡ suc j = h (suc i) (suc j) (omega arith)
    (omega arith) e in omega (arith, f)

pub Once-head : (x : ℕ) (xs : List ℕ) → Once (x ∷ xs) → place_in x xs ≡ None
Once-head x xs h = place-nowhere x xs (λ j l e. let f : suc j ≡ 0 = h (suc j) 0 (omega arith)
    (omega arith) e in absurd (omega (arith, f)))

pub Once-none : Once []
Once-none i j k l e = absurd (omega (arith, k))

absent : (x : ℕ) (xs : List ℕ) → place_in x xs ≡ None → (j : ℕ) → j < length xs → get_or xs j 0 ≡ x
    → ⊥
absent x [] h j l e = omega (arith, l)
absent x (y ∷ ys) h zero l e = let f : place_in x (y ∷ ys) ≡ Some 1 = place-here x y ys (sym e) in
    cc
absent x (y ∷ ys) h (suc j) l e = elim (cases_eq x y) [
  | inl t ↦ let f : place_in x (y ∷ ys) ≡ Some 1 = place-here x y ys t in absurd (cc)
  | inr ne ↦ absent x ys (none_suc (place_in x ys) (sym (place-past x y ys ne) ∙ h)) j
      (omega (arith, l)) e
]

pub Once-cons : (x : ℕ) (xs : List ℕ) → place_in x xs ≡ None → Once xs → Once (x ∷ xs)
Once-cons x xs h o zero zero a b e = refl
Once-cons x xs h o zero (suc j) a b e = absurd (absent x xs h j (omega (arith, b)) (sym e))
Once-cons x xs h o (suc i) zero a b e = absurd (absent x xs h i (omega (arith, a)) e)
Once-cons x xs h o (suc i) (suc j) a b e = ap suc (o i j (omega (arith, a)) (omega (arith, b)) e)

pub Once-front : (xs ys : List ℕ) → IsPrefix xs ys → Once ys → Once xs
Once-front [] ys p o = Once-none
Once-front (x ∷ xs) [] p o = absurd (let f : x ∷ (xs ++ p.0) ≡ [] = p.1 in cc)
Once-front (x ∷ xs) (y ∷ ys) p o =
    let e : x ≡ y = ap (front_or 0) p.1 in
    let rest : xs ++ p.0 ≡ ys = ap rear p.1 in
    let no' : place_in x (xs ++ p.0) ≡ None = ap (λ zs. place_in x zs) rest
    ∙ ap (λ z. place_in z ys) e ∙ Once-head y ys o in
    Once-cons x xs (lacks-front x xs p.0 no') (Once-front xs ys (p.0, rest) (Once-tail y ys o))

not_zero : (x : ℕ) (xs : List ℕ) → place_in x xs ≡ Some 0 → ⊥
not_zero x xs h = let b = place-bounds x xs 0 h in omega (arith, b.0)

-- where the place is 1, it is the first
place-first : (x y : ℕ) (ys : List ℕ) → place_in x (y ∷ ys) ≡ Some 1 → x ≡ y
place-first x y ys h = elim (cases_eq x y) [
  | inl e ↦ e
  | inr ne ↦
      let m = map_some suc (place_in x ys) 1 (sym (place-past x y ys ne) ∙ h) in
      let z : m.0 ≡ 0 = omega (arith, m.2) in
      absurd (not_zero x ys (m.1 ∙ ap (λ n. Some n) z))
]

-- each number has the same place
pub same_places : (xs ys : List ℕ) → Once xs → Once ys → ((x : ℕ) → place_in x xs ≡ place_in x ys)
    → xs ≡ ys
same_places [] [] o p h = refl
same_places [] (y ∷ ys) o p h = let f : place_in y [] ≡ Some 1 = h y ∙ place-here y y ys refl in
    absurd (cc)
same_places (x ∷ xs) [] o p h = let f : Some 1 ≡ place_in x [] = sym (place-here x x xs refl)
    ∙ h x in absurd (cc)
same_places (x ∷ xs) (y ∷ ys) o p h =
    let e : x ≡ y = place-first x y ys (sym (h x) ∙ place-here x x xs refl) in
    let rest : (z : ℕ) → place_in z xs ≡ place_in z ys = λ z. elim (cases_eq z x) [
      | inl f ↦
          let a : place_in z xs ≡ None = rw f (Once-head x xs o) in
          let b : place_in z ys ≡ None = rw (f ∙ e) (Once-head y ys p) in a ∙ sym b
      | inr ne ↦
          same_suc (place_in z xs) (place_in z ys) (sym (place-past z x xs ne) ∙ h z
          ∙ place-past z y ys (λ f. ne (f ∙ sym e)))
    ] in
    let tails = same_places xs ys (Once-tail x xs o) (Once-tail y ys p) rest in
    λ i. e i ∷ tails i

-- Items by their keys.
pub found-none : {A : Type 0} (key : A → ℕ) (x : ℕ) (xs : List A) → place_in x (map key xs) ≡ None
    → found key x xs ≡ None
found-none key x xs h = none-unless (found key x xs) (is_some-found key x xs ∙ ap is_some h)

-- a found item has what all items have
pub found-all : {A : Type 0} (P : A → Type 0) (key : A → ℕ) (x : ℕ) (xs : List A) (a : A)
    → ((k : ℕ) (d : A) → k < length xs → P (get_or xs k d)) → found key x xs ≡ Some a → P a
found-all P key x [] a h f = absurd (cc)
found-all P key x (b ∷ xs) a h f = elim (cases_eq x (key b)) [
  | inl e ↦ subst P (some_same b a (sym (found-here key x b xs e) ∙ f)) (h 0 a (omega arith))
  | inr ne ↦ found-all P key x xs a (λ k d l. h (suc k) d (omega (arith, l)))
      (sym (found-past key x b xs ne) ∙ f)
]

-- the items are of the first of these numbers, and each number has the same item
pub same_firsts : {A : Type 0} (key : A → ℕ) (ids : List ℕ) (xs ys : List A) → Once ids
    → IsPrefix (map key xs) ids → IsPrefix (map key ys) ids
    → ((x : ℕ) → found key x xs ≡ found key x ys) → xs ≡ ys
same_firsts key ids [] [] o p q h = refl
same_firsts key ids [] (y ∷ ys) o p q h = let f : found key (key y) [] ≡ Some y =
    h (key y) ∙ found-here key (key y) y ys refl in absurd (cc)
same_firsts key ids (x ∷ xs) [] o p q h = let f : Some x ≡ found key (key x) [] =
    sym (found-here key (key x) x xs refl) ∙ h (key x) in absurd (cc)
same_firsts key [] (x ∷ xs) (y ∷ ys) o p q h = let f : key x ∷ (map key xs ++ p.0) ≡ [] =
    p.1 in absurd (cc)
same_firsts key (i ∷ ids) (x ∷ xs) (y ∷ ys) o p q h =
    let kx : key x ≡ i = ap (front_or 0) p.1 in
    let ky : key y ≡ i = ap (front_or 0) q.1 in
    let xt : map key xs ++ p.0 ≡ ids = ap rear p.1 in
    let yt : map key ys ++ q.0 ≡ ids = ap rear q.1 in
    let e : x ≡ y = some_same x y (sym (found-here key (key x) x xs refl) ∙ h (key x)
    ∙ found-here key (key x) y ys (kx ∙ sym ky)) in
    let ax : found key i xs ≡ None = found-none key i xs (lacks-front i (map key xs) p.0
    (ap (λ zs. place_in i zs) xt ∙ Once-head i ids o)) in
    let ay : found key i ys ≡ None = found-none key i ys (lacks-front i (map key ys) q.0
    (ap (λ zs. place_in i zs) yt ∙ Once-head i ids o)) in
    let rest : (z : ℕ) → found key z xs ≡ found key z ys = λ z. elim (cases_eq z i) [
      | inl f ↦ rw f (ax ∙ sym ay)
      | inr ne ↦ sym (found-past key z x xs (λ f. ne (f ∙ kx))) ∙ h z ∙ found-past key z y ys
          (λ f. ne (f ∙ ky))
    ] in
    let tails = same_firsts key ids xs ys (Once-tail i ids o) (p.0, xt) (q.0, yt) rest in
    λ j. e j ∷ tails j

append_none : (xs : List ℕ) → xs ++ [] ≡ xs
append_none [] = refl
append_none (x ∷ xs) = ap (λ l. x ∷ l) (append_none xs)

-- keys that stand once, at the same places, each with the same item
pub same_items : {A : Type 0} (key : A → ℕ) (xs ys : List A) → Once (map key xs) → Once (map key ys)
    → ((x : ℕ) → place_in x (map key xs) ≡ place_in x (map key ys))
    → ((x : ℕ) → found key x xs ≡ found key x ys) → xs ≡ ys
same_items key xs ys o p h f =
    let ids : map key xs ≡ map key ys = same_places (map key xs) (map key ys) o p h in
    same_firsts key (map key xs) xs ys o ([], append_none (map key xs))
    ([], append_none (map key ys) ∙ sym ids) f

-- lists of equally many, each equal
pub same_lists : {A : Type 0} (d : A) (xs ys : List A) → length xs ≡ length ys
    → ((i : ℕ) → i < length xs → get_or xs i d ≡ get_or ys i d) → xs ≡ ys
same_lists d [] [] e h = refl
same_lists d [] (y ∷ ys) e h = absurd (omega (arith, e))
same_lists d (x ∷ xs) [] e h = absurd (omega (arith, e))
same_lists d (x ∷ xs) (y ∷ ys) e h =
    let f : x ≡ y = h 0 (omega arith) in
    let tails = same_lists d xs ys (omega (arith, e)) (λ i l. h (suc i) (omega arith)) in
    λ j. f j ∷ tails j
