-- Steps that write at a word.
use Rattle.std.proofs.Common.{◌≡◌, ◌⊎◌, inl, inr, ℕ, zero, suc, ◌==◌, ◌&&◌, Bool, true, false}
use Rattle.std.proofs.Common.{List, [], ◌∷◌, None, Some, if◌then◌else◌, sym, refl, ap, ◌∙◌}
use Rattle.std.proofs.Common.{arith, eq-eqb, ne_eqb}
use Rattle.std.specs.List.{Contains}
use Rattle.std.specs.Option.{unwrap_or}
use mathlib.Core.Logic.{dite}
use native.Mathlib.Decide.{ℕ_discrete}
use Rattle.linearization.proofs.ListLemmas.{if_same, if_other}
use Rattle.hint_words.specs.Closings.{WritesAt}
use Rattle.hint_words.specs.Steps.{value_written}
use Rattle.hint_words.specs.declared.step.HintStep.{HintStep}
use Rattle.hint_words.specs.declared.step.HintStep.TheVariants.{ClearIf, Load, Store}

none-is : {A B : Type 0} (x : A) → None ≡ Some x → B
none-is x e = cc

pub writes-none : {A : Type 0} (i n : ℕ) → WritesAt [] i n → A
writes-none i n w = let less = w.does.1 in absurd (omega (arith, less))

-- one of two lists of steps writes
pub writes-first : (d : HintStep) (ds : List HintStep) (i n : ℕ) → WritesAt (d ∷ ds) i n
    → (value_written i d ≡ Some n) ⊎ WritesAt ds i n
writes-first d ds i n w = by-place w.does
  where
    by-place : Contains (d ∷ ds) w.step → (value_written i d ≡ Some n) ⊎ WritesAt ds i n
    by-place (zero, less, is) = inl (ap (value_written i) is ∙ w.writes)
    by-place (suc k, less, is) =
        inr (record { step = w.step; does = (k, omega (arith, less), is); writes = w.writes })

-- a load writes nothing
pub past-load : (j v : ℕ) (ds : List HintStep) (i n : ℕ) → WritesAt (Load j v ∷ ds) i n
    → WritesAt ds i n
past-load j v ds i n w = elim (writes-first (Load j v) ds i n w) [
  | inl e ↦ none-is n e
  | inr older ↦ older
]

-- a store writes its value at its word
pub store-is : (j v i n : ℕ) → value_written i (Store j v) ≡ Some n → (j ≡ i) × (v ≡ n)
store-is j v i n is =
    dite (ℕ_discrete j i)
    (λ same. (same, ap (λ o. unwrap_or o v) (sym (if_same j i (Some v) None same) ∙ is)))
    (λ other. none-is n (sym (if_other j i (Some v) None other) ∙ is))

-- a clear writes 0 at its word
pub clear-is : (j v : ℕ) (done : Bool) (i n : ℕ) → value_written i (ClearIf j v done) ≡ Some n
    → (j ≡ i) × (n ≡ 0)
clear-is j v true i n is =
    dite (ℕ_discrete j i)
    (λ same. (same, sym (ap (λ o. unwrap_or o 0) (sym (clears same) ∙ is))))
    (λ other. none-is n (sym (keeps other) ∙ is))
  where
    clears : j ≡ i → value_written i (ClearIf j v true) ≡ Some 0
    clears same = ap (λ b. if b && true then Some 0 else None) (eq-eqb j i same)

    keeps : (j ≡ i → ⊥) → value_written i (ClearIf j v true) ≡ None
    keeps other = ap (λ b. if b && true then Some 0 else None) (ne_eqb j i other)
clear-is j v false i n is = by-test (j == i) is
  where
    by-test : (b : Bool) → (if b && false then Some 0 else None) ≡ Some n → (j ≡ i) × (n ≡ 0)
    by-test true e = none-is n e
    by-test false e = none-is n e

-- what is stored is written
pub store-writes : (ds : List HintStep) (i n : ℕ) → Contains ds (Store i n) → WritesAt ds i n
store-writes ds i n has =
    record { step = Store i n; does = has; writes = if_same i i (Some n) None refl }
