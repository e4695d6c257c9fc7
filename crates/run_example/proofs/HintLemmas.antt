-- Orders of steps at hint words that are written down: they are lawful by a test that computes, and
-- what holds of each store of a list holds of the one with some number.
use Rattle.std.proofs.Common.{◌≡◌, inl, inr, ℕ, zero, suc, ◌==◌, ◌&&◌, Bool, true, false, List}
use Rattle.std.proofs.Common.{[], ◌∷◌, Some, None, length, All, refl, sym, ap, ◌∙◌, subst, arith}
use Rattle.std.specs.List.{Contains}
use Rattle.std.proofs.lemmas.Bool.{cases_eq, eqb-true}
use Rattle.std.proofs.lemmas.List.Elements.{All-cons, All-nil}
use Rattle.linearization.specs.Orders.{StepBy}
use Rattle.linearization.proofs.ListLemmas.{if_other, if_same}
use Rattle.hint_words.specs.Steps.{AnswersAfter, IsLawful, value_written, word_after}
use Rattle.hint_words.specs.declared.step.HintStep.{HintStep}
use Rattle.hint_words.specs.declared.step.HintStep.TheVariants.{ClearIf, Load, Store}
use Rattle.hop_rule.specs.Moments.{nth_step}
use Rattle.hop_rule.proofs.Lists.{none-some, some-is}
use Rattle.hop_rule.proofs.Moments.{nth-first, nth-inside, nth-last, nth-old}

both : (a b : Bool) → (a && b) ≡ true → (a ≡ true) × (b ≡ true)
both true b e = (refl, e)
both false b e = absurd (cc)

-- ---- lawful orders

-- whether the step returns what its word is after these; clears are not tested
abbrev answers_after : List (StepBy HintStep) → HintStep → Bool
answers_after es (Load word value) = value == word_after word es
answers_after es (Store word value) = true
answers_after es (ClearIf word value done) = false

answers-after : (es : List (StepBy HintStep)) (d : HintStep) → answers_after es d ≡ true
    → AnswersAfter es d
answers-after es (Load word value) e = eqb-true value (word_after word es) e
answers-after es (Store word value) e = tt
answers-after es (ClearIf word value done) e = absurd (cc)

abbrev pub is_lawful : List (StepBy HintStep) → Bool
is_lawful [] = true
is_lawful (e ∷ es) = answers_after es e.step && is_lawful es

pub lawful_by_test : (es : List (StepBy HintStep)) → is_lawful es ≡ true → IsLawful es
lawful_by_test [] passes = tt
lawful_by_test (e ∷ es) passes =
    let b = both (answers_after es e.step) (is_lawful es) passes in
    (answers-after es e.step b.0, lawful_by_test es b.1)

-- ---- what holds of each member

module _ {A : Type 0} (P : A → Type 0) (test : A → Bool)
    (shows : (x : A) → test x ≡ true → P x) where
  abbrev pub each_passes : List A → Bool
  each_passes [] = true
  each_passes (x ∷ xs) = test x && each_passes xs

  pub all_by_test : (xs : List A) → each_passes xs ≡ true → All P xs
  all_by_test [] passes = All-nil P
  all_by_test (x ∷ xs) passes =
      let b = both (test x) (each_passes xs) passes in
      All-cons P x xs (shows x b.0) (all_by_test xs b.1)

-- ---- stores

-- a step of a list has a number
pub number_of : (ds : List HintStep) (d : HintStep) → Contains ds d
    → (n : ℕ) × (nth_step ds n ≡ Some d)
number_of [] d c = let less = c.1 in absurd (omega (arith, less))
number_of (e ∷ es) d (zero, less, is) =
    (length es, nth-last e es ∙ ap (λ x. Some x) is)
number_of (e ∷ es) d (suc k, less, is) =
    let r = number_of es d (k, omega (arith, less), is) in
    (r.0, nth-old (e ∷ []) es r.0 (nth-inside es r.0 d r.1) ∙ r.1)

-- P holds of each store with its number, its word and its value, and there are no clears
module _ (P : (number word value : ℕ) → Type 0) where
  abbrev pub EachStore : List HintStep → Type 0
  EachStore [] = Unit {0}
  EachStore (Load word value ∷ ds) = EachStore ds
  EachStore (Store word value ∷ ds) = P (length ds) word value × EachStore ds
  EachStore (ClearIf word value done ∷ ds) = ⊥

  older-stores : (d : HintStep) (ds : List HintStep) → EachStore (d ∷ ds) → EachStore ds
  older-stores (Load word value) ds all = all
  older-stores (Store word value) ds all = all.1
  older-stores (ClearIf word value done) ds all = absurd all

  pub store_of_each : (ds : List HintStep) (n word value : ℕ) → EachStore ds
      → nth_step ds n ≡ Some (Store word value) → P n word value
  store_of_each [] n word value all at = none-some (Store word value) at
  store_of_each (d ∷ ds) n word value all at =
      elim (nth-first d ds n (Store word value) at) [
        | inl old ↦ store_of_each ds n word value (older-stores d ds all) old
        | inr new ↦
            subst (λ m. P m word value) (sym new.1)
            (subst (λ (e : HintStep). EachStore (e ∷ ds)) new.0 all).0
      ]

  no-clear : (ds : List HintStep) (n word value : ℕ) (done : Bool) → EachStore ds
      → nth_step ds n ≡ Some (ClearIf word value done) → ⊥
  no-clear [] n word value done all at = none-some (ClearIf word value done) at
  no-clear (d ∷ ds) n word value done all at =
      elim (nth-first d ds n (ClearIf word value done) at) [
        | inl old ↦ no-clear ds n word value done (older-stores d ds all) old
        | inr new ↦ absurd (subst (λ (e : HintStep). EachStore (e ∷ ds)) new.0 all)
      ]

  -- a step that writes at a word is a store there
  pub write_of_each : (ds : List HintStep) (d : HintStep) (word value : ℕ) → EachStore ds
      → Contains ds d → value_written word d ≡ Some value
      → (n : ℕ) × (nth_step ds n ≡ Some (Store word value))
  write_of_each ds d word value all has writes =
      let r = number_of ds d has in (r.0, is-store d r.0 r.1 writes)
    where
      is-store : (d : HintStep) (n : ℕ) → nth_step ds n ≡ Some d
          → value_written word d ≡ Some value → nth_step ds n ≡ Some (Store word value)
      is-store (Load w m) n at writes = none-some value writes
      is-store (ClearIf w m done) n at writes = absurd (no-clear ds n w m done all at)
      is-store (Store w m) n at writes =
          elim (cases_eq w word) [
            | inl here ↦
                (let is = some-is m value (sym (if_same w word (Some m) None here) ∙ writes) in
                at ∙ (λ j. Some (Store (here j) (is j))))
            | inr other ↦ none-some value (sym (if_other w word (Some m) None other) ∙ writes)
          ]
