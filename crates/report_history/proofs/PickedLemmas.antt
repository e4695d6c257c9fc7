-- What is picked from the items of a list, one by one.
use Rattle.std.proofs.Common.{ℕ, zero, suc, ◌<◌, ◌≡◌, true, List, [], ◌∷◌, ◌++◌}
use Rattle.std.proofs.Common.{Option, Some, None, map, length, refl, ap, ◌∙◌, sym, arith, get_or}
use Rattle.std.proofs.Common.{inl, inr, ap₂}
use Rattle.std.specs.Prelude.{◌==◌, if◌then◌else◌}
use Rattle.std.specs.List.{cons_option, filter_map, slice_get}
use Rattle.std.specs.Option.{option_map}
use Rattle.std.proofs.lemmas.Bool.{cases_Bool, cases_eq}
use Rattle.steer_base.specs.Entries.{place_in}
use Rattle.steer_base.specs.Orders.{IsPrefix}
use Rattle.history.specs.Finding.{found, is_in, Once}
use Rattle.history.specs.Lists.{arrivals_at, no_arrival}
use Rattle.history.specs.declared.arrival.Arrival.{Arrival}
use Rattle.history.proofs.FindingLemmas.{found-here, found-past, is_in-here, is_in-past}
use Rattle.history.proofs.SamePlaces.{Once-head, Once-tail, front_or, place-here, place-past, rear}

-- what is behind a list with an item in front
pub cons-append : {A : Type 0} (o : Option A) (xs ys : List A) → cons_option o (xs ++ ys)
    ≡ cons_option o xs ++ ys
cons-append None xs ys = refl
cons-append (Some a) xs ys = refl

pub picked-append : {A B : Type 0} (f : A → Option B) (xs ys : List A)
    → filter_map f (xs ++ ys) ≡ filter_map f xs ++ filter_map f ys
picked-append f [] ys = refl
picked-append f (x ∷ xs) ys =
    ap (cons_option (f x)) (picked-append f xs ys)
    ∙ cons-append (f x) (filter_map f xs) (filter_map f ys)

-- from the items of a map
pub picked-map : {A B C : Type 0} (g : A → B) (f : B → Option C) (xs : List A)
    → filter_map f (map g xs) ≡ filter_map (λ x. f (g x)) xs
picked-map g f [] = refl
picked-map g f (x ∷ xs) = ap (cons_option (f (g x))) (picked-map g f xs)

-- the same of each member
pub picked-same : {B : Type 0} (f g : ℕ → Option B) (xs : List ℕ)
    → ((x : ℕ) → is_in x xs ≡ true → f x ≡ g x) → filter_map f xs ≡ filter_map g xs
picked-same f g [] h = refl
picked-same f g (y ∷ ys) h =
    let here : f y ≡ g y = h y (is_in-here y y ys refl) in
    let rest : filter_map f ys ≡ filter_map g ys =
    picked-same f g ys (λ x s. elim (cases_eq x y) [
      | inl e ↦ h x (is_in-here x y ys e)
      | inr ne ↦ h x (is_in-past x y ys ne ∙ s)
    ]) in
    ap₂ cons_option here rest

-- the same of each item as of its key
pub picked-keys : {A B : Type 0} (key : A → ℕ) (f : A → Option B) (g : ℕ → Option B) (xs : List A)
    (d : A) → ((k : ℕ) → k < length xs → f (get_or xs k d) ≡ g (key (get_or xs k d)))
    → filter_map f xs ≡ filter_map g (map key xs)
picked-keys key f g [] d h = refl
picked-keys key f g (x ∷ xs) d h =
    let here : f x ≡ g (key x) = h 0 (omega arith) in
    let rest : filter_map f xs ≡ filter_map g (map key xs) =
    picked-keys key f g xs d (λ k l. h (suc k) (omega (arith, l))) in
    ap₂ cons_option here rest

-- the same of each arrival at a queue as of its packet
pub picked-at : {B : Type 0} (q : ℕ) (f : Arrival → Option B) (g : ℕ → Option B)
    (arrivals : List Arrival)
    → ((k : ℕ) → k < length arrivals → f (get_or arrivals k no_arrival)
    ≡ (if (get_or arrivals k no_arrival).queue == q then g (get_or arrivals k no_arrival).id
    else None))
    → filter_map f arrivals ≡ filter_map g (arrivals_at arrivals q)
picked-at q f g [] h = refl
picked-at q f g (a ∷ rest) h =
    let tails : filter_map f rest ≡ filter_map g (arrivals_at rest q) =
    picked-at q f g rest (λ k l. h (suc k) (omega (arith, l))) in
    let here = h 0 (omega arith) in
    elim (cases_Bool (a.queue == q)) [
      | inl t ↦
          let one : f a ≡ g a.id = rw t at here in
          let l : arrivals_at (a ∷ rest) q ≡ a.id ∷ arrivals_at rest q = rw t refl in
          ap₂ cons_option one tails ∙ ap (filter_map g) (sym l)
      | inr t ↦
          let none : f a ≡ None = rw t at here in
          let l : arrivals_at (a ∷ rest) q ≡ arrivals_at rest q = rw t refl in
          ap₂ cons_option none tails ∙ ap (filter_map g) (sym l)
    ]

-- ids of which none is found
none-found : {A : Type 0} (key : A → ℕ) (ids : List ℕ)
    → filter_map (λ i. found key i []) ids ≡ []
none-found key [] = refl
none-found key (i ∷ ids) = none-found key ids

-- an item whose key is not among the ids changes nothing
past-front : {A : Type 0} (key : A → ℕ) (ids : List ℕ) (x : A) (xs : List A)
    → place_in (key x) ids ≡ None
    → filter_map (λ i. found key i (x ∷ xs)) ids ≡ filter_map (λ i. found key i xs) ids
past-front key [] x xs n = refl
past-front key (i ∷ ids) x xs n = elim (cases_eq (key x) i) [
  | inl e ↦ let f : place_in (key x) (i ∷ ids) ≡ Some 1 = place-here (key x) i ids e in
      absurd (cc)
  | inr ne ↦
      let m : place_in (key x) ids ≡ None =
      none-back (place_in (key x) ids) (sym (place-past (key x) i ids ne) ∙ n) in
      let here : found key i (x ∷ xs) ≡ found key i xs = found-past key i x xs (λ e. ne (sym e)) in
      ap₂ cons_option here (past-front key ids x xs m)
]
  where
    none-back : (o : Option ℕ) → option_map suc o ≡ None → o ≡ None
    none-back None e = refl
    none-back (Some k) e = absurd (cc)

-- items with the first of these ids are found again, id by id
pub firsts : {A : Type 0} (key : A → ℕ) (ids : List ℕ) (xs : List A) → Once ids
    → IsPrefix (map key xs) ids → filter_map (λ i. found key i xs) ids ≡ xs
firsts key ids [] o p = none-found key ids
firsts key [] (x ∷ xs) o p = let f : key x ∷ (map key xs ++ p.0) ≡ [] = p.1 in absurd (cc)
firsts key (i ∷ ids) (x ∷ xs) o p =
    let kx : key x ≡ i = ap (front_or 0) p.1 in
    let t : map key xs ++ p.0 ≡ ids = ap rear p.1 in
    let here : found key i (x ∷ xs) ≡ Some x = found-here key i x xs (sym kx) in
    let n : place_in (key x) ids ≡ None = ap (λ k. place_in k ids) kx ∙ Once-head i ids o in
    ap₂ cons_option here
    (past-front key ids x xs n ∙ firsts key ids xs (Once-tail i ids o) (p.0, t))

-- an item of a list, by its index
pub get-at : {A : Type 0} (xs : List A) (i : ℕ) (d : A) → i < length xs
    → slice_get xs i ≡ Some (get_or xs i d)
get-at [] i d l = absurd (omega (arith, l))
get-at (x ∷ xs) zero d l = refl
get-at (x ∷ xs) (suc i) d l = get-at xs i d (omega (arith, l))

-- a map of a map
pub map-map : {A B C : Type 0} (f : A → B) (g : B → C) (xs : List A) → map g (map f xs)
    ≡ map (λ x. g (f x)) xs
map-map f g [] = refl
map-map f g (x ∷ xs) = ap (λ ys. g (f x) ∷ ys) (map-map f g xs)
