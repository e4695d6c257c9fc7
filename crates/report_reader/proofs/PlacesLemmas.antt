-- Lists side by side that have a packet at each place.
use Rattle.std.proofs.Common.{ℕ, zero, suc, ◌≡◌, ◌≢◌, ◌≤◌, ◌<◌, ◌+◌, ◌-◌, List, [], ◌∷◌, ◌++◌}
use Rattle.std.proofs.Common.{Option, Some, None, length, map, take, replicate, refl, ap, ◌∙◌, sym}
use Rattle.std.proofs.Common.{arith, get_or, subst, inl, inr}
use Rattle.std.specs.Prelude.{slice_set}
use Rattle.std.proofs.lemmas.Bool.{cases_eq, cases_lt, eq-eqb, ne_eqb}
use Rattle.std.proofs.lemmas.List.{get_or-map, get_or-replicate, get_or-set_same, get_or-set_other}
use Rattle.std.proofs.lemmas.List.{get_or_append_left, get_or_push, length-map, length-set, map-set}
use Rattle.std.proofs.lemmas.List.{length-replicate, map_push}
use Rattle.history.specs.Lists.{list_at}
use Rattle.history.proofs.SamePlaces.{some_same}
use Rattle.report_reader.specs.Slots.{one_at, place_for}
use Rattle.report_reader.specs.declared.slots.Slot.{Slot}

zeros-all : (n : ℕ) → take {A = ℕ} n [] ++ replicate (n - 0) 0 ≡ replicate n 0
zeros-all zero = refl
zeros-all (suc n) = let e : suc n - 0 ≡ suc n = omega arith in rw e refl

-- a vector with no item, resized
module _ (new old : List ℕ) (n k : ℕ) (e : new ≡ take n old ++ replicate (n - k) 0) (o : old ≡ [])
    (z : k ≡ 0) where
  zeros : new ≡ replicate n 0
  zeros = e ∙ (rw (o, z) (zeros-all n))

  pub zeros-long : length new ≡ n
  zeros-long = ap length zeros ∙ length-replicate n 0

  pub zeros-at : (j : ℕ) → j < n → get_or new j 0 ≡ 0
  zeros-at j l = ap (λ xs. get_or xs j 0) zeros ∙ get_or-replicate n j 0 0 l

pub one-most : (o : Option ℕ) → one_at o ≤ 1
one-most None = omega arith
one-most (Some p) = omega arith

-- one list more, of the length that is wanted
pub made-more : {V : Type 0} (f : V → List ℕ) (vs new : List V) (v : V) (n : ℕ) (g : ℕ → ℕ)
    → new ≡ vs ++ v ∷ [] → length vs ≡ n → length (f v) ≡ g n
    → ((k : ℕ) → k < n → length (list_at (map f vs) k) ≡ g k)
    → (k : ℕ) → k < n + 1 → length (list_at (map f new) k) ≡ g k
made-more f vs new v n g e m h before k l =
    let whole : map f new ≡ map f vs ++ f v ∷ [] = ap (map f) e ∙ map_push f vs v in
    let long : length (map f vs) ≡ length vs = length-map vs f in
    elim (cases_lt k n) [
      | inl b ↦
          ap (λ xs. length (list_at xs k)) whole
          ∙ ap length (get_or_append_left (map f vs) (f v ∷ []) [] k (omega (arith, b, m, long)))
          ∙ before k b
      | inr b ↦
          let same : n ≡ k = omega (arith, b, l) in
          ap (λ xs. length (list_at xs k)) whole
          ∙ ap length (get_or_push (map f vs) (f v) [] k (omega (arith, b, l, m, long)))
          ∙ h ∙ ap g same
    ]

-- one list of these has another packet at a place
module _ {V : Type 0} (f : V → List ℕ) (vs : List V) (at id : ℕ) (w v : V) (s : Slot)
    (is : at ≡ s.list) (in' : at < length vs) (here : w ≡ get_or vs at w)
    (put : 0 < s.place → s.place ≤ length (f w) → f v ≡ slice_set (f w) (s.place - 1) id) where
  old-at : list_at (map f vs) at ≡ f w
  old-at = get_or-map f vs at w [] in' ∙ ap f (sym here)

  new-at : list_at (map f (slice_set vs at v)) at ≡ f v
  new-at =
      get_or-map f (slice_set vs at v) at v [] (omega (arith, in', length-set vs at v))
      ∙ ap f (get_or-set_same vs at v v in')

  other : (n : ℕ) → n ≢ at → list_at (map f (slice_set vs at v)) n ≡ list_at (map f vs) n
  other n ne =
      ap (λ xs. list_at xs n) (map-set f vs at v) ∙ get_or-set_other (map f vs) at n (f v) [] ne

  own-place : (n : ℕ) → at ≡ n → place_for n (Some s) ≡ Some s.place
  own-place n e = rw (eq-eqb s.list n (sym is ∙ e)) refl

  no-place : (n : ℕ) → at ≢ n → place_for n (Some s) ≡ None
  no-place n ne = rw (ne_eqb s.list n (λ e. ne (is ∙ e))) refl

  pub put-set : (n p : ℕ) → place_for n (Some s) ≡ Some p → 0 < p
      → p ≤ length (list_at (map f vs) n)
      → list_at (map f (slice_set vs at v)) n ≡ slice_set (list_at (map f vs) n) (p - 1) id
  put-set n p h a b = elim (cases_eq at n) [
    | inl e ↦
        let q : s.place ≡ p = some_same s.place p (sym (own-place n e) ∙ h) in
        let b1 : p ≤ length (list_at (map f vs) at) =
        subst (λ k. p ≤ length (list_at (map f vs) k)) (sym e) b in
        let b2 : p ≤ length (f w) = subst (λ xs. p ≤ length xs) old-at b1 in
        let g : f v ≡ slice_set (f w) (s.place - 1) id =
        put (omega (arith, q, a)) (omega (arith, q, b2)) in
        subst (λ k. list_at (map f (slice_set vs at v)) k
        ≡ slice_set (list_at (map f vs) k) (p - 1) id) e
        (new-at ∙ g ∙ ap (λ xs. slice_set xs (s.place - 1) id) (sym old-at)
        ∙ ap (λ k. slice_set (list_at (map f vs) at) (k - 1) id) q)
    | inr ne ↦ let y : None ≡ Some p = sym (no-place n ne) ∙ h in absurd (cc)
  ]

  pub put-same : (n : ℕ) → place_for n (Some s) ≡ None
      → list_at (map f (slice_set vs at v)) n ≡ list_at (map f vs) n
  put-same n h = elim (cases_eq at n) [
    | inl e ↦ let y : Some s.place ≡ None = sym (own-place n e) ∙ h in absurd (cc)
    | inr ne ↦ other n (λ e. ne (sym e))
  ]
