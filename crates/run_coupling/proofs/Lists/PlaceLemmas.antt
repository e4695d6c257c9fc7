-- Packets at indices of lists: what is in a list stands at an index, and lists whose packets stand
-- at one index each are apart.
use Rattle.std.specs.Prelude.{if◌then◌else◌}
use Rattle.std.proofs.lemmas.Bool.{cases_Bool}
use Rattle.std.proofs.lemmas.Option.{slice_get-get_or}
use Rattle.steer_base.specs.Orders.{Apart}
use Rattle.history.specs.Finding.{is_among, found, Once}
use Rattle.history.specs.Lines.{choice_in}
use Rattle.history.specs.Lists.{arrivals_at}
use Rattle.history.proofs.FindingLemmas.{is_in-here, is_in-past, found-here, found-past}
use Rattle.run_coupling.proofs.Names.{◌≡◌, ◌≢◌, ◌⊎◌, inl, inr, ℕ, zero, suc, ◌+◌, ◌<◌, ◌≤◌, ◌==◌}
use Rattle.run_coupling.proofs.Names.{Bool, true, List, [], ◌∷◌, ◌++◌, Option, Some, None, length}
use Rattle.run_coupling.proofs.Names.{map, take, drop, sym, refl, ap, ◌∙◌, arith, slice_get}
use Rattle.run_coupling.proofs.Names.{slice_index, option_map, range_with_len, cases_eq, eq-eqb}
use Rattle.run_coupling.proofs.Names.{ne_eqb, Chosen, LaneDrop, is_in, list_at, Arrival}

-- ---- an index

none-some : {A : Type 0} {B : Type 0} (x : A) → None ≡ Some x → B
none-some x e = absurd (cc)

some-same : {A : Type 0} (x y : A) → Some x ≡ Some y → x ≡ y
some-same x y e = cc

-- what stands at an index is in the list
pub in_at : (x n : ℕ) (xs : List ℕ) → slice_get xs n ≡ Some x → is_in x xs ≡ true
in_at x n [] at = none-some x at
in_at x zero (y ∷ ys) at = is_in-here x y ys (sym (some-same y x at))
in_at x (suc n) (y ∷ ys) at =
    elim (cases_eq x y) [
      | inl e ↦ is_in-here x y ys e
      | inr ne ↦ is_in-past x y ys ne ∙ in_at x n ys at
    ]

-- what is in a list stands at an index
pub at_in : (x : ℕ) (xs : List ℕ) → is_in x xs ≡ true → (n : ℕ) × (slice_get xs n ≡ Some x)
at_in x [] is = absurd (cc)
at_in x (y ∷ ys) is =
    elim (cases_eq x y) [
      | inl e ↦ (0, ap (λ z. Some z) (sym e))
      | inr ne ↦ (let r = at_in x ys (sym (is_in-past x y ys ne) ∙ is) in (suc r.0, r.1))
    ]

slice_get-take : {A : Type 0} (xs : List A) (n m : ℕ) → n < m
    → slice_get (take m xs) n ≡ slice_get xs n
slice_get-take [] n zero less = refl
slice_get-take [] n (suc m) less = refl
slice_get-take (x ∷ xs) n zero less = absurd (omega arith)
slice_get-take (x ∷ xs) zero (suc m) less = refl
slice_get-take (x ∷ xs) (suc n) (suc m) less = slice_get-take xs n m (omega arith)

-- what stands at an index below m is among the first m
pub among_at : (x n m : ℕ) (xs : List ℕ) → slice_get xs n ≡ Some x → n < m → is_among m x xs ≡ true
among_at x n m xs at less = in_at x n (take m xs) (slice_get-take xs n m less ∙ at)

-- an index by its number
pub at_index : (xs : List ℕ) (i : ℕ) → i < length xs → slice_get xs i ≡ Some (slice_index xs i)
at_index xs i less = slice_get-get_or xs i 0 less

-- ---- apart

-- in these lists each packet stands at one place
abbrev pub StandOnce : List (List ℕ) → Type 0
StandOnce lists =
    (p q i j x : ℕ) → slice_get (list_at lists p) i ≡ Some x
    → slice_get (list_at lists q) j ≡ Some x → (p ≡ q) × (i ≡ j)

pub apart_from : (lists : List (List ℕ)) → StandOnce lists → Apart lists
apart_from lists stand p q i j pl ql il jl e =
    stand p q i j (slice_index (list_at lists p) i)
    (at_index (list_at lists p) i il)
    (at_index (list_at lists q) j jl ∙ ap (λ n. Some n) (sym e))

pub once_from : (xs : List ℕ)
    → ((i j x : ℕ) → slice_get xs i ≡ Some x → slice_get xs j ≡ Some x → i ≡ j) → Once xs
once_from xs stand i j il jl e =
    stand i j (slice_index xs i) (at_index xs i il)
    (at_index xs j jl ∙ ap (λ n. Some n) (sym e))

-- a list of two rows of lists is one of the first row or one of the second
list-joined : (xs ys : List (List ℕ)) (p : ℕ)
    → ((p < length xs) × (list_at (xs ++ ys) p ≡ list_at xs p))
    ⊎ ((k : ℕ) × (p ≡ length xs + k) × (list_at (xs ++ ys) p ≡ list_at ys k))
list-joined [] ys p = inr (p, omega arith, refl)
list-joined (x ∷ xs) ys zero = inl (omega arith, refl)
list-joined (x ∷ xs) ys (suc p) =
    elim (list-joined xs ys p) [
      | inl a ↦ (let lt = a.0 in inl (omega arith, a.1))
      | inr b ↦ (let e = b.1 in inr (b.0, omega arith, b.2))
    ]

pub joined_stand : (xs ys : List (List ℕ)) → StandOnce xs → StandOnce ys
    → ((p q i j x : ℕ) → slice_get (list_at xs p) i ≡ Some x
    → slice_get (list_at ys q) j ≡ Some x → ⊥)
    → StandOnce (xs ++ ys)
joined_stand xs ys left right never p q i j x at there =
    elim (list-joined xs ys p) [
      | inl a ↦
          elim (list-joined xs ys q) [
            | inl b ↦ left p q i j x (moved a.1 i x at) (moved b.1 j x there)
            | inr b ↦ absurd (never p b.0 i j x (moved a.1 i x at) (moved b.2 j x there))
          ]
      | inr a ↦
          elim (list-joined xs ys q) [
            | inl b ↦ absurd (never q a.0 j i x (moved b.1 j x there) (moved a.2 i x at))
            | inr b ↦
                (let same = right a.0 b.0 i j x (moved a.2 i x at) (moved b.2 j x there) in
                (a.1 ∙ (ap (λ k. length xs + k) same.0 ∙ sym b.1), same.1))
          ]
    ]
  where
    moved : {us vs : List ℕ} → us ≡ vs → (i x : ℕ) → slice_get us i ≡ Some x
        → slice_get vs i ≡ Some x
    moved e i x at = ap (λ zs. slice_get zs i) (sym e) ∙ at

-- ---- the lists of lanes

pub drop_at : (ds : List LaneDrop) (n x : ℕ) → slice_get (map (λ d. d.id) ds) n ≡ Some x
    → (d : LaneDrop) × (slice_get ds n ≡ Some d) × (d.id ≡ x)
drop_at [] n x at = none-some x at
drop_at (d ∷ ds) zero x at = (d, refl, some-same d.id x at)
drop_at (d ∷ ds) (suc n) x at = drop_at ds n x at

-- ---- the choice for a packet

pub found_at : (cs : List Chosen) (k : ℕ) (c : Chosen) → slice_get cs k ≡ Some c
    → ((j : ℕ) (d : Chosen) → slice_get cs j ≡ Some d → d.id ≡ c.id → j ≡ k)
    → found (λ d. d.id) c.id cs ≡ Some c
found_at [] k c at one = none-some c at
found_at (d ∷ cs) zero c at one =
    let e : d ≡ c = some-same d c at in
    found-here (λ (d : Chosen). d.id) c.id d cs (ap (λ (z : Chosen). z.id) (sym e))
    ∙ ap (λ (z : Chosen). Some z) e
found_at (d ∷ cs) (suc k) c at one =
    let ne : c.id ≢ d.id = λ e. (let z = one 0 d refl (sym e) in absurd (omega arith)) in
    found-past (λ (d : Chosen). d.id) c.id d cs ne
    ∙ found_at cs k c at (λ j e there same. (let z = one (suc j) e there same in omega arith))

pub choice_at : (cs : List Chosen) (k : ℕ) (c : Chosen) → slice_get cs k ≡ Some c
    → ((j : ℕ) (d : Chosen) → slice_get cs j ≡ Some d → d.id ≡ c.id → j ≡ k)
    → choice_in c.id cs ≡ Some c.choice
choice_at cs k c at one =
    ap (λ (o : Option Chosen). option_map (λ (c : Chosen). c.choice) o)
    (found_at cs k c at one)

-- ---- numbered arrivals

head-same : (x y : ℕ) (xs ys : List ℕ) → x ∷ xs ≡ y ∷ ys → x ≡ y
head-same x y xs ys e = some-same x y (ap (λ zs. slice_get zs 0) e)

tail-same : (x y : ℕ) (xs ys : List ℕ) → x ∷ xs ≡ y ∷ ys → xs ≡ ys
tail-same x y xs ys e = ap (λ zs. drop 1 zs) e

-- the arrivals have the numbers from i on
abbrev pub AreNumbered : ℕ → List Arrival → Type 0
AreNumbered i arrivals = map (λ a. a.id) arrivals ≡ range_with_len i (length arrivals)

-- the arrivals at a queue, the first of all being there or not
abbrev pub if_there : Bool → ℕ → List ℕ → List ℕ
if_there here x xs = if here then x ∷ xs else xs

pub split-arrivals : (a : Arrival) (rest : List Arrival) (p : ℕ)
    → arrivals_at (a ∷ rest) p ≡ if_there (a.queue == p) a.id (arrivals_at rest p)
split-arrivals a rest p =
    elim (cases_Bool (a.queue == p)) [
      | inl t ↦ rw t refl
      | inr t ↦ rw t refl
    ]

-- what stands at an index of the arrivals at a queue is the first of all, or one of the rest
data StandsAs (a : Arrival) (rest : List Arrival) (p j x : ℕ) : Type 0 where
  first : a.queue ≡ p → j ≡ 0 → a.id ≡ x → StandsAs a rest p j x
  behind : (k : ℕ) → a.queue ≡ p → j ≡ suc k → slice_get (arrivals_at rest p) k ≡ Some x
      → StandsAs a rest p j x
  beside : a.queue ≢ p → slice_get (arrivals_at rest p) j ≡ Some x → StandsAs a rest p j x

stands_as : (a : Arrival) (rest : List Arrival) (p j x : ℕ)
    → slice_get (arrivals_at (a ∷ rest) p) j ≡ Some x → StandsAs a rest p j x
stands_as a rest p j x at =
    let split : slice_get (if_there (a.queue == p) a.id (arrivals_at rest p)) j ≡ Some x =
    ap (λ xs. slice_get xs j) (sym (split-arrivals a rest p)) ∙ at in
    elim (cases_eq a.queue p) [
      | inl e ↦
          by_index j e (ap (λ b. slice_get (if_there b a.id (arrivals_at rest p)) j)
          (sym (eq-eqb a.queue p e)) ∙ split)
      | inr ne ↦
          beside ne (ap (λ b. slice_get (if_there b a.id (arrivals_at rest p)) j)
          (sym (ne_eqb a.queue p ne)) ∙ split)
    ]
  where
    by_index : (j : ℕ) → a.queue ≡ p → slice_get (a.id ∷ arrivals_at rest p) j ≡ Some x
        → StandsAs a rest p j x
    by_index zero e at = first e refl (some-same a.id x at)
    by_index (suc k) e at = behind k e refl at

-- each arrival at a queue has one of the numbers
pub arrived_within : (arrivals : List Arrival) (i p j x : ℕ) → AreNumbered i arrivals
    → slice_get (arrivals_at arrivals p) j ≡ Some x → (i ≤ x) × (x < i + length arrivals)
arrived_within [] i p j x numbered at = none-some x at
arrived_within (a ∷ rest) i p j x numbered at =
    by_case (head-same a.id i (map (λ (a : Arrival). a.id) rest)
    (range_with_len (i + 1) (length rest)) numbered)
    (tail-same a.id i (map (λ (a : Arrival). a.id) rest)
    (range_with_len (i + 1) (length rest)) numbered)
    (λ k older there. arrived_within rest (i + 1) p k x older there) (stands_as a rest p j x at)
  where
    later : ((k : ℕ) → AreNumbered (i + 1) rest → slice_get (arrivals_at rest p) k ≡ Some x
        → (i + 1 ≤ x) × (x < (i + 1) + length rest)) → (k : ℕ) → AreNumbered (i + 1) rest
        → slice_get (arrivals_at rest p) k ≡ Some x → (i ≤ x) × (x < i + suc (length rest))
    later before k numbered at =
        let r = before k numbered at in
        let low = r.0 in
        let high = r.1 in (omega arith, omega arith)

    by_case : a.id ≡ i → AreNumbered (i + 1) rest
        → ((k : ℕ) → AreNumbered (i + 1) rest → slice_get (arrivals_at rest p) k ≡ Some x
        → (i + 1 ≤ x) × (x < (i + 1) + length rest)) → StandsAs a rest p j x
        → (i ≤ x) × (x < i + suc (length rest))
    by_case is numbered before (first q z e) = (omega arith, omega arith)
    by_case is numbered before (behind k q s at) = later before k numbered at
    by_case is numbered before (beside ne at) = later before j numbered at

-- no number arrived twice, at any queues
pub arrived_once : (arrivals : List Arrival) (i p q j k x : ℕ) → AreNumbered i arrivals
    → slice_get (arrivals_at arrivals p) j ≡ Some x
    → slice_get (arrivals_at arrivals q) k ≡ Some x → (p ≡ q) × (j ≡ k)
arrived_once [] i p q j k x numbered at there = none-some x at
arrived_once (a ∷ rest) i p q j k x numbered at there =
    both (head-same a.id i (map (λ (a : Arrival). a.id) rest)
    (range_with_len (i + 1) (length rest)) numbered)
    (tail-same a.id i (map (λ (a : Arrival). a.id) rest)
    (range_with_len (i + 1) (length rest)) numbered)
    (λ m n older at there. arrived_once rest (i + 1) p q m n x older at there)
    (stands_as a rest p j x at) (stands_as a rest q k x there)
  where
    twice : (r n : ℕ) → a.id ≡ i → AreNumbered (i + 1) rest → a.id ≡ x
        → slice_get (arrivals_at rest r) n ≡ Some x → ⊥
    twice r n is numbered e at =
        let b = arrived_within rest (i + 1) r n x numbered at in let low = b.0 in omega arith

    both : a.id ≡ i → AreNumbered (i + 1) rest
        → ((m n : ℕ) → AreNumbered (i + 1) rest → slice_get (arrivals_at rest p) m ≡ Some x
        → slice_get (arrivals_at rest q) n ≡ Some x → (p ≡ q) × (m ≡ n))
        → StandsAs a rest p j x → StandsAs a rest q k x → (p ≡ q) × (j ≡ k)
    both is older before (first e z x_is) (first f y x_is2) = (sym e ∙ f, z ∙ sym y)
    both is older before (first e z x_is) (behind n f s at) = absurd (twice q n is older x_is at)
    both is older before (first e z x_is) (beside ne at) = absurd (twice q k is older x_is at)
    both is older before (behind m e s at) (first f y x_is) = absurd (twice p m is older x_is at)
    both is older before (behind m e s at) (behind n f t there) =
        let r = before m n older at there in (r.0, s ∙ (ap suc r.1 ∙ sym t))
    both is older before (behind m e s at) (beside ne there) =
        absurd (ne (e ∙ (before m k older at there).0))
    both is older before (beside ne at) (first f y x_is) = absurd (twice p j is older x_is at)
    both is older before (beside ne at) (behind n f t there) =
        absurd (ne (f ∙ sym (before j n older at there).0))
    both is older before (beside ne at) (beside mf there) = before j k older at there

-- each number that arrived stands at some index of the arrivals at some queue
pub arrived_somewhere : (arrivals : List Arrival) (x : ℕ)
    → is_in x (map (λ a. a.id) arrivals) ≡ true
    → (p : ℕ) × (j : ℕ) × (slice_get (arrivals_at arrivals p) j ≡ Some x)
arrived_somewhere [] x is = absurd (cc)
arrived_somewhere (a ∷ rest) x is =
    elim (cases_eq x a.id) [
      | inl e ↦ (
        a.queue,
        0,
        ap (λ xs. slice_get xs 0)
            (split-arrivals a rest a.queue
            ∙ ap (λ b. if_there b a.id (arrivals_at rest a.queue)) (eq-eqb a.queue a.queue refl))
            ∙ ap (λ n. Some n) (sym e),
      )
      | inr ne ↦
          (let r = arrived_somewhere rest x
          (sym (is_in-past x a.id (map (λ (a : Arrival). a.id) rest) ne) ∙ is) in
          later r.0 r.1 r.2)
    ]
  where
    later : (p j : ℕ) → slice_get (arrivals_at rest p) j ≡ Some x
        → (p : ℕ) × (j : ℕ) × (slice_get (arrivals_at (a ∷ rest) p) j ≡ Some x)
    later p j at =
        elim (cases_eq a.queue p) [
          | inl e ↦ (
            p,
            suc j,
            ap (λ xs. slice_get xs (suc j))
                (split-arrivals a rest p
                ∙ ap (λ b. if_there b a.id (arrivals_at rest p)) (eq-eqb a.queue p e))
                ∙ at,
          )
          | inr ne ↦ (
            p,
            j,
            ap (λ xs. slice_get xs j)
                (split-arrivals a rest p
                ∙ ap (λ b. if_there b a.id (arrivals_at rest p)) (ne_eqb a.queue p ne))
                ∙ at,
          )
        ]
