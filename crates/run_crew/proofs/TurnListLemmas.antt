-- A turn among all turns of a producer, and what was noted of the turns before it.
use Rattle.std.proofs.Common.{length-append}
use Rattle.std.specs.Prelude.{◌-◌}
use Rattle.std.proofs.Math.Seq.{take-append_seam}
use Rattle.std.proofs.lemmas.List.{drop-append-le, take-append-le}
use Rattle.std.proofs.lemmas.List.Sums.{fold-append}
use Rattle.hop_rule.proofs.Moments.{nth-member}
use Rattle.run_workers.specs.Hands.Pollers.{as_told}
use Rattle.run_crew.proofs.Names.{◌≡◌, ◌⊎◌, inl, inr, ℕ, zero, suc, ◌≤◌, List, [], ◌∷◌, ◌++◌, Some}
use Rattle.run_crew.proofs.Names.{length, map, take, drop, sym, refl, ap, ◌∙◌, arith, slice_get}
use Rattle.run_crew.proofs.Names.{Contains, fold, length-map, map-append, after_turn, Table}
use Rattle.run_crew.proofs.Names.{nth_step, none-some, some-is, nth-first, nth-inside, nth-last}
use Rattle.run_crew.proofs.Names.{nth-old, Turn, oldest_first}

pub length_turned : {A : Type 0} (xs : List A) → length (oldest_first xs) ≡ length xs
length_turned [] = refl
length_turned (x ∷ xs) =
    length-append (oldest_first xs) (x ∷ [])
    ∙ (let n = length_turned xs in omega (arith, n))

-- the table told of the turns since one, and of one more
pub since_more : (table : Table) (since : ℕ) (us : List Turn) (u : Turn) → since ≤ length us
    → fold after_turn table (map as_told (drop since (oldest_first (u ∷ us))))
    ≡ after_turn (fold after_turn table (map as_told (drop since (oldest_first us)))) (as_told u)
since_more table since us u le =
    let n = length_turned us in
    let parts = drop-append-le since (oldest_first us) (u ∷ []) (omega (arith, n, le)) in
    ap (λ zs. fold after_turn table (map as_told zs)) parts
    ∙ (ap (fold after_turn table) (map-append as_told (drop since (oldest_first us)) (u ∷ []))
    ∙ fold-append after_turn table (map as_told (drop since (oldest_first us)))
    (as_told u ∷ []))

-- a member of a list is its first one or one of the others
pub contains_split : {A : Type 0} (y : A) (xs : List A) (x : A) → Contains (y ∷ xs) x
    → (y ≡ x) ⊎ Contains xs x
contains_split y xs x (zero, less, is) = inl is
contains_split y xs x (suc k, less, is) = inr (k, omega (arith, less), is)

-- a step of a list has a number
pub has_number : {A : Type 0} (xs : List A) (d : A) → Contains xs d
    → (k : ℕ) × (nth_step xs k ≡ Some d)
has_number xs d (j, less, is) = (
  length xs - suc j,
  nth-member xs j d less ∙ ap (λ z. Some z) is,
)

-- and what has a number is a step of it
pub nth_contains : {A : Type 0} (xs : List A) (k : ℕ) (d : A) → nth_step xs k ≡ Some d
    → Contains xs d
nth_contains [] k d at = none-some d at
nth_contains (x ∷ xs) k d at = elim (nth-first x xs k d at) [
  | inl old ↦ (let r = nth_contains xs k d old in (suc r.0, omega (arith, r.1), r.2))
  | inr last ↦ (0, omega arith, last.0)
]

module _ {A : Type 0} where
  front-get : (xs ys : List A) (k : ℕ) (x : A) → slice_get xs k ≡ Some x
      → slice_get (xs ++ ys) k ≡ Some x
  front-get [] ys k x is = none-some x is
  front-get (y ∷ xs) ys zero x is = is
  front-get (y ∷ xs) ys (suc k) x is = front-get xs ys k x is

  last-get : (xs : List A) (x : A) → slice_get (xs ++ x ∷ []) (length xs) ≡ Some x
  last-get [] x = refl
  last-get (y ∷ xs) x = last-get xs x

  -- an item is, from the oldest, at the place that it has
  pub place : (newer : List A) (x : A) (older : List A)
      → slice_get (oldest_first (newer ++ x ∷ older)) (length older) ≡ Some x
  place [] x older =
      ap (λ k. slice_get (oldest_first older ++ x ∷ []) k) (sym (length_turned older))
      ∙ last-get (oldest_first older) x
  place (y ∷ newer) x older =
      front-get (oldest_first (newer ++ x ∷ older)) (y ∷ []) (length older) x
      (place newer x older)

  last-cases : (xs : List A) (y : A) (k : ℕ) (x : A) → slice_get (xs ++ y ∷ []) k ≡ Some x
      → (slice_get xs k ≡ Some x) ⊎ ((y ≡ x) × (k ≡ length xs))
  last-cases [] y zero x is = inr (some-is y x is, refl)
  last-cases [] y (suc k) x is = none-some x is
  last-cases (z ∷ xs) y zero x is = inl is
  last-cases (z ∷ xs) y (suc k) x is = elim (last-cases xs y k x is) [
    | inl front ↦ inl front
    | inr last ↦ inr (last.0, ap (λ n. suc n) last.1)
  ]

  -- the item with k before it is the k-th from the oldest
  pub nth-oldest : (xs : List A) (k : ℕ) (x : A) → nth_step xs k ≡ Some x
      → slice_get (oldest_first xs) k ≡ Some x
  nth-oldest [] k x is = none-some x is
  nth-oldest (y ∷ ys) k x is = elim (nth-first y ys k x is) [
    | inl old ↦ front-get (oldest_first ys) (y ∷ []) k x (nth-oldest ys k x old)
    | inr last ↦
        ap (λ n. slice_get (oldest_first ys ++ y ∷ []) n) (last.1 ∙ sym (length_turned ys))
        ∙ (last-get (oldest_first ys) y ∙ ap Some last.0)
  ]

  pub oldest-nth : (xs : List A) (k : ℕ) (x : A) → slice_get (oldest_first xs) k ≡ Some x
      → nth_step xs k ≡ Some x
  oldest-nth [] k x is = none-some x is
  oldest-nth (y ∷ ys) k x is = elim (last-cases (oldest_first ys) y k x is) [
    | inl old ↦
        let at = oldest-nth ys k x old in
        nth-old (y ∷ []) ys k (nth-inside ys k x at) ∙ at
    | inr last ↦
        ap (nth_step (y ∷ ys)) (last.1 ∙ length_turned ys) ∙ (nth-last y ys ∙ ap Some last.0)
  ]

  -- the k-th item of a list whose items are changed
  pub nth-map : {B : Type 0} (f : A → B) (xs : List A) (k : ℕ) (x : A) → nth_step xs k ≡ Some x
      → nth_step (map f xs) k ≡ Some (f x)
  nth-map f [] k x is = none-some x is
  nth-map f (y ∷ ys) k x is = elim (nth-first y ys k x is) [
    | inl old ↦
        let at = nth-map f ys k x old in
        nth-old (f y ∷ []) (map f ys) k (nth-inside (map f ys) k (f x) at) ∙ at
    | inr last ↦
        ap (nth_step (f y ∷ map f ys)) (last.1 ∙ sym (length-map ys f))
        ∙ (nth-last (f y) (map f ys) ∙ ap (λ z. Some (f z)) last.0)
  ]

module _ {S T : Type 0} (f : S → T) where
  -- the k-th turn, in what was noted of the turns: what is before it, it, and what is after it
  pub record TurnAt (noted : List S) (k : ℕ) (u : T) : Type 0 where
    pub newer : List S
    pub s : S
    pub older : List S
    pub are : noted ≡ newer ++ s ∷ older
    pub turn_is : f s ≡ u
    pub before : length older ≡ k

  pub turn_at : (noted : List S) (k : ℕ) (u : T) → nth_step (map f noted) k ≡ Some u
      → TurnAt noted k u
  turn_at [] k u at = none-some u at
  turn_at (s ∷ ss) k u at =
      elim (nth-first (f s) (map f ss) k u at) [
        | inl old ↦ (let x = turn_at ss k u old in
            record {
              newer = s ∷ x.newer;
              s = x.s;
              older = x.older;
              are = ap (λ zs. s ∷ zs) x.are;
              turn_is = x.turn_is;
              before = x.before;
            })
        | inr new ↦ record {
          newer = [];
          s = s;
          older = ss;
          are = refl;
          turn_is = new.0;
          before = sym (new.1 ∙ length-map ss f);
        }
      ]

  -- the oldest turns are those before a turn
  pub front : (newer : List S) (s : S) (older : List S)
      → take (length older) (oldest_first (map f (newer ++ s ∷ older)))
      ≡ oldest_first (map f older)
  front [] s older =
      let us : List T = map f older in
      let n : length (oldest_first us) ≡ length older =
      length_turned us ∙ length-map older f in
      ap (λ k. take k (oldest_first us ++ f s ∷ [])) (sym n)
      ∙ take-append_seam (oldest_first us) (f s ∷ [])
  front (x ∷ newer) s older =
      let us : List T = map f (newer ++ s ∷ older) in
      let n : length (oldest_first us) ≡ length (newer ++ s ∷ older) =
      length_turned us ∙ length-map (newer ++ s ∷ older) f in
      let m = length-append newer (s ∷ older) in
      take-append-le (length older) (oldest_first us) (f x ∷ []) (omega (arith, n, m))
      ∙ front newer s older
