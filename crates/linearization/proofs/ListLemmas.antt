-- Lists read by place.
use Rattle.std.proofs.Common.{◌≡◌, ◌≢◌, ◌⊎◌, inl, inr, ℕ, zero, suc, ◌+◌, ◌==◌, List, [], ◌∷◌, ◌++◌}
use Rattle.std.proofs.Common.{length, if◌then◌else◌, sym, refl, ap, ⊎_elim, arith, eq-eqb, ne_eqb}
use mathlib.Core.Option.{some, some-injective, some-ne-none}
use lib.ListN.{get_elem?}

pub if_same : {A : Type 0} (p q : ℕ) (a b : A) → p ≡ q → (if p == q then a else b) ≡ a
if_same p q a b e = ap (λ c. if c then a else b) (eq-eqb p q e)

pub if_other : {A : Type 0} (p q : ℕ) (a b : A) → p ≢ q → (if p == q then a else b) ≡ b
if_other p q a b ne = ap (λ c. if c then a else b) (ne_eqb p q ne)

pub at_end : {A : Type 0} (l : List A) (a b : A) (j : ℕ) → get_elem? (l ++ a ∷ []) j ≡ some b
    → (get_elem? l j ≡ some b) ⊎ ((j ≡ length l) × (a ≡ b))
at_end [] a b zero e = inr (refl, some-injective a b e)
at_end [] a b (suc j) e = absurd (some-ne-none b (sym e))
at_end (x ∷ xs) a b zero e = inl e
at_end (x ∷ xs) a b (suc j) e = ⊎_elim (λ h. inl h) (λ t. inr (ap suc t.0, t.1)) (at_end xs a b j e)

pub at_either : {A : Type 0} (l m : List A) (j : ℕ) (b : A) → get_elem? (l ++ m) j ≡ some b
    → (get_elem? l j ≡ some b) ⊎ ((k : ℕ) × (j ≡ k + length l) × (get_elem? m k ≡ some b))
at_either [] m j b e = inr (j, omega arith, e)
at_either (x ∷ xs) m zero b e = inl e
at_either (x ∷ xs) m (suc j) b e =
    ⊎_elim (λ h. inl h) (λ (t : (k : ℕ) × (j ≡ k + length xs) × (get_elem? m k ≡ some b)).
    let h = t.1 in inr (t.0, omega arith, t.2)) (at_either xs m j b e)
