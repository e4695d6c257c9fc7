-- Lists that begin with another list, as a list does that has grown at its end.
use Rattle.std.proofs.Common.{ℕ, zero, suc, ◌+◌, ◌≤◌, ◌<◌, ◌≡◌, ◌⊎◌, List, [], ◌∷◌, ◌++◌, Some}
use Rattle.std.proofs.Common.{length, take, refl, ap, ◌∙◌, sym, arith, get_or, set, replicate, inl}
use Rattle.std.proofs.Common.{inr}
use Rattle.std.specs.Prelude.{slice_get}
use Rattle.std.proofs.lemmas.List.{append-nil, append_assoc, get_or_append_left, length-append}
use Rattle.std.proofs.lemmas.List.{take-append-le}

module _ {X : Type 0} where
  -- the second list is the first with some items more
  abbrev pub Extends : List X → List X → Type 0
  Extends xs ys = (rest : List X) × (xs ++ rest ≡ ys)

  pub extends-self : (xs : List X) → Extends xs xs
  extends-self xs = ([], append-nil xs)

  pub extends-push : (xs : List X) (x : X) → Extends xs (xs ++ x ∷ [])
  extends-push xs x = (x ∷ [], refl)

  pub extends-same : (xs ys : List X) → ys ≡ xs → Extends xs ys
  extends-same xs ys e = ([], append-nil xs ∙ sym e)

  pub extends-more : (xs ys zs : List X) → Extends xs ys → Extends ys zs → Extends xs zs
  extends-more xs ys zs a b = (
    a.0 ++ b.0,
    sym (append_assoc xs a.0 b.0) ∙ ap (λ l. l ++ b.0) a.1 ∙ b.1,
  )

  pub extends-length : (xs ys : List X) → Extends xs ys → length xs ≤ length ys
  extends-length xs ys e =
      let n : length (xs ++ e.0) ≡ length xs + length e.0 = length-append xs e.0 in
      let same : length (xs ++ e.0) ≡ length ys = ap length e.1 in
      omega (arith, n, same)

  pub extends-get : (xs ys : List X) (i : ℕ) (d : X) → Extends xs ys → i < length xs
      → get_or ys i d ≡ get_or xs i d
  extends-get xs ys i d e lt =
      ap (λ l. get_or l i d) (sym e.1) ∙ get_or_append_left xs e.0 d i lt

  pub extends-take : (xs ys : List X) (i : ℕ) → Extends xs ys → i ≤ length xs
      → take i ys ≡ take i xs
  extends-take xs ys i e le = ap (take i) (sym e.1) ∙ take-append-le i xs e.0 le

  get-append : (xs ys : List X) (i : ℕ) (x : X) → slice_get xs i ≡ Some x
      → slice_get (xs ++ ys) i ≡ Some x
  get-append [] ys i x is = cc
  get-append (z ∷ zs) ys zero x is = is
  get-append (z ∷ zs) ys (suc i) x is = get-append zs ys i x is

  pub extends-slice_get : (xs ys : List X) (i : ℕ) (x : X) → Extends xs ys
      → slice_get xs i ≡ Some x → slice_get ys i ≡ Some x
  extends-slice_get xs ys i x e is =
      ap (λ l. slice_get l i) (sym e.1) ∙ get-append xs e.0 i x is

  pub get-last : (xs : List X) (x : X) → slice_get (xs ++ x ∷ []) (length xs) ≡ Some x
  get-last [] x = refl
  get-last (y ∷ ys) x = get-last ys x

  -- one of several lists has one item more
  pub extends-set : (lists : List (List X)) (a b : ℕ) (x : X)
      → Extends (get_or lists b []) (get_or (set lists a (get_or lists a [] ++ x ∷ [])) b [])
  extends-set [] a b x = extends-self []
  extends-set (l ∷ ls) zero zero x = extends-push l x
  extends-set (l ∷ ls) zero (suc b) x = extends-self (get_or ls b [])
  extends-set (l ∷ ls) (suc a) zero x = extends-self l
  extends-set (l ∷ ls) (suc a) (suc b) x = extends-set ls a b x

  -- a list of one item has it everywhere, and beyond its end too where that is the default
  pub blank-at : (n i : ℕ) (d : X) → get_or (replicate n d) i d ≡ d
  blank-at zero i d = refl
  blank-at (suc n) zero d = refl
  blank-at (suc n) (suc i) d = blank-at n i d

  -- an item of a list with one more is one of the list, or the last
  pub get-either : (xs : List X) (x y : X) (k : ℕ) → slice_get (xs ++ x ∷ []) k ≡ Some y
      → (slice_get xs k ≡ Some y) ⊎ ((k ≡ length xs) × (x ≡ y))
  get-either [] x y zero is = inr (refl, cc)
  get-either [] x y (suc k) is = absurd (cc)
  get-either (z ∷ zs) x y zero is = inl is
  get-either (z ∷ zs) x y (suc k) is =
      elim (get-either zs x y k is) [
        | inl old ↦ inl old
        | inr new ↦ inr (ap suc new.0, new.1)
      ]
