-- What a list has of a packet, item by item.
use Rattle.std.proofs.Common.{ℕ, ◌+◌, ◌-◌, ◌≤◌, ◌<◌, ◌≡◌, ◌≢◌, true, false, cond, List, [], ◌∷◌}
use Rattle.std.proofs.Common.{Option, Some, None, map, length, take, drop, refl, ap, ◌∙◌, sym}
use Rattle.std.proofs.Common.{arith, suc, zero, inl, inr, get_or, subst}
use Rattle.std.specs.Prelude.{◌==◌}
use Rattle.std.specs.Option.{option_map, is_some}
use Rattle.std.proofs.Math.Seq.{drop-cons}
use Rattle.std.proofs.lemmas.Bool.{cases_Bool, cases_eq, ne_eqb, eq-eqb, eqb-true}
use Rattle.std.proofs.lemmas.List.{drop_all}
use Rattle.steer_base.specs.Entries.{place_in}
use Rattle.history.specs.Finding.{is_in, is_among, found}
use Rattle.history.specs.Lists.{arrivals_at}
use Rattle.history.specs.declared.arrival.Arrival.{Arrival}

pub is_some-suc : (o : Option ℕ) → is_some (option_map suc o) ≡ is_some o
is_some-suc None = refl
is_some-suc (Some n) = refl

-- a list has its head, and what its tail has
pub is_in-here : (x y : ℕ) (ys : List ℕ) → x ≡ y → is_in x (y ∷ ys) ≡ true
is_in-here x y ys e = rw (eq-eqb x y e) refl

pub is_in-past : (x y : ℕ) (ys : List ℕ) → x ≢ y → is_in x (y ∷ ys) ≡ is_in x ys
is_in-past x y ys ne = rw (ne_eqb x y ne) (is_some-suc (place_in x ys))

pub found-here : {A : Type 0} (key : A → ℕ) (x : ℕ) (a : A) (rest : List A) → x ≡ key a
    → found key x (a ∷ rest) ≡ Some a
found-here key x a rest e = rw (eq-eqb x (key a) e) refl

pub found-past : {A : Type 0} (key : A → ℕ) (x : ℕ) (a : A) (rest : List A) → x ≢ key a
    → found key x (a ∷ rest) ≡ found key x rest
found-past key x a rest ne = rw (ne_eqb x (key a) ne) refl

-- the same of what is left of a list, in the order in which it is walked
pub is_in-drop_here : {A : Type 0} (key : A → ℕ) (x i : ℕ) (xs : List A) (d : A) → i < length xs
    → x ≡ key (get_or xs i d) → is_in x (map key (drop i xs)) ≡ true
is_in-drop_here key x i xs d l e = rw (drop-cons xs i d l) (is_in-here x (key (get_or xs i d))
    (map key (drop (suc i) xs)) e)

pub is_in-drop_past : {A : Type 0} (key : A → ℕ) (x i : ℕ) (xs : List A) (d : A) → i < length xs
    → x ≢ key (get_or xs i d)
    → is_in x (map key (drop (i + 1) xs)) ≡ is_in x (map key (drop i xs))
is_in-drop_past key x i xs d l ne =
    let n : suc i ≡ i + 1 = omega arith in
    subst (λ m. is_in x (map key (drop m xs)) ≡ is_in x (map key (drop i xs))) n
    (rw (drop-cons xs i d l)
    (sym (is_in-past x (key (get_or xs i d)) (map key (drop (suc i) xs)) ne)))

pub is_in-drop_end : {A : Type 0} (key : A → ℕ) (x i : ℕ) (xs : List A) → length xs ≤ i
    → is_in x (map key (drop i xs)) ≡ false
is_in-drop_end key x i xs l = rw (drop_all i xs l) refl

pub found-drop_here : {A : Type 0} (key : A → ℕ) (x i : ℕ) (xs : List A) (d : A) → i < length xs
    → x ≡ key (get_or xs i d) → found key x (drop i xs) ≡ Some (get_or xs i d)
found-drop_here key x i xs d l e = rw (drop-cons xs i d l) (found-here key x (get_or xs i d)
    (drop (suc i) xs) e)

pub found-drop_past : {A : Type 0} (key : A → ℕ) (x i : ℕ) (xs : List A) (d : A) → i < length xs
    → x ≢ key (get_or xs i d) → found key x (drop (i + 1) xs) ≡ found key x (drop i xs)
found-drop_past key x i xs d l ne =
    let n : suc i ≡ i + 1 = omega arith in
    subst (λ m. found key x (drop m xs) ≡ found key x (drop i xs)) n
    (rw (drop-cons xs i d l) (sym (found-past key x (get_or xs i d) (drop (suc i) xs) ne)))

pub found-drop_end : {A : Type 0} (key : A → ℕ) (x i : ℕ) (xs : List A) → length xs ≤ i
    → found key x (drop i xs) ≡ None
found-drop_end key x i xs l = rw (drop_all i xs l) refl

-- a list of numbers is its own list of keys
pub map-same : (xs : List ℕ) → map (λ x. x) xs ≡ xs
map-same [] = refl
map-same (x ∷ xs) = ap (λ l. x ∷ l) (map-same xs)

-- the arrivals of a queue, from one arrival on
pub arrivals_at-drop : (q i j : ℕ) (arrivals : List Arrival) (a : Arrival) → i < length arrivals
    → a ≡ get_or arrivals i a → j ≡ suc i
    → arrivals_at (drop i arrivals) q ≡ cond (a.queue == q) (a.id ∷ arrivals_at (drop j arrivals) q)
    (arrivals_at (drop j arrivals) q)
arrivals_at-drop q i j arrivals a l e f =
    rw (f, drop-cons arrivals i a l, ← e) (elim (cases_Bool (a.queue == q)) [
      | inl t ↦ rw t refl
      | inr t ↦ rw t refl
    ])

module _ (x q i j : ℕ) (items arrivals : List Arrival) (a : Arrival) (same : items ≡ arrivals)
    (below : i < length items) (here : a ≡ get_or items i a) (next : j ≡ suc i) where
  step : arrivals_at (drop i arrivals) q ≡ cond (a.queue == q)
      (a.id ∷ arrivals_at (drop j arrivals) q) (arrivals_at (drop j arrivals) q)
  step = subst (λ ys. arrivals_at (drop i ys) q ≡ cond (a.queue == q)
      (a.id ∷ arrivals_at (drop j ys) q) (arrivals_at (drop j ys) q)) same
      (arrivals_at-drop q i j items a below here next)

  pub among-here : (left : ℕ) → left ≢ 0 → (a.queue == q) ≡ true → (a.id == x) ≡ true
      → is_among left x (arrivals_at (drop i arrivals) q) ≡ true
  among-here zero n s t = absurd (n refl)
  among-here (suc left) n s t =
      rw (step, s) (is_in-here x a.id (take left (arrivals_at (drop j arrivals) q))
      (sym (eqb-true a.id x t)))

  pub among-same_queue : (left : ℕ) → left ≢ 0 → (a.queue == q) ≡ true → (a.id == x) ≡ false
      → is_among (left - 1) x (arrivals_at (drop j arrivals) q) ≡ is_among left x
      (arrivals_at (drop i arrivals) q)
  among-same_queue zero n s t = absurd (n refl)
  among-same_queue (suc left) n s t =
      let ne : x ≢ a.id = λ e. let f : (a.id == x) ≡ true = eq-eqb a.id x (sym e) in cc in
      let m : suc left - 1 ≡ left = omega arith in
      rw (m, step, s) (sym (is_in-past x a.id (take left (arrivals_at (drop j arrivals) q)) ne))

  pub among-other_queue : (left : ℕ) → (a.queue == q) ≡ false → is_among left x
      (arrivals_at (drop j arrivals) q) ≡ is_among left x (arrivals_at (drop i arrivals) q)
  among-other_queue left s = rw (step, s) refl

-- what is among the first of a list is in it
pub is_in-among : (n x : ℕ) (xs : List ℕ) → is_among n x xs ≡ true → is_in x xs ≡ true
is_in-among zero x [] h = absurd (cc)
is_in-among zero x (y ∷ ys) h = absurd (cc)
is_in-among (suc n) x [] h = absurd (cc)
is_in-among (suc n) x (y ∷ ys) h =
    elim (cases_eq x y) [
      | inl e ↦ is_in-here x y ys e
      | inr ne ↦ is_in-past x y ys ne ∙ is_in-among n x ys (sym (is_in-past x y (take n ys) ne) ∙ h)
    ]
