-- Where the values of loads come from.
use Rattle.std.proofs.Common.{◌≡◌, ◌≢◌, ℕ, zero, suc, ◌==◌, ◌&&◌, Bool, true, false, List, [], ◌∷◌}
use Rattle.std.proofs.Common.{map, if◌then◌else◌, All, Option, None, Some, sym, refl, ap, ◌∙◌}
use Rattle.std.proofs.Common.{subst, arith, eq-eqb, ne_eqb}
use Rattle.std.specs.List.{Contains}
use Rattle.std.specs.Option.{unwrap_or}
use Rattle.std.proofs.lemmas.List.Elements.{All-nil, All-cons, All-weaker, All-contains}
use mathlib.Core.Logic.{dite}
use native.Mathlib.Decide.{ℕ_discrete}
use Rattle.linearization.specs.Orders.{StepBy, step_by, steps_of}
use Rattle.linearization.specs.Seats.{SeatView, HasPart, IsByOne, ArePartsOf}
use Rattle.hint_words.specs.declared.step.HintStep.{HintStep}
use Rattle.hint_words.specs.declared.step.HintStep.TheVariants.{Load, Store, ClearIf}
use Rattle.hint_words.specs.Steps.{value_written, word_after, AnswersAfter, IsLawful}
use Rattle.hint_words.specs.Loads.{IsStoredBy, ComesFrom, LoadsAreStored}

here : {A : Type 0} (x : A) (xs : List A) → Contains (x ∷ xs) x
here x xs = (0, omega arith, refl)

there : {A : Type 0} (x y : A) (xs : List A) → Contains xs y → Contains (x ∷ xs) y
there x y xs c = let l = c.1 in (suc c.0, omega arith, c.2)

-- one of two lists, by a test of numbers
by_test : {A : Type 0} (p q : ℕ) (a b : A) (F : A → Type 0) → (p ≡ q → F a) → (p ≢ q → F b)
    → F (if p == q then a else b)
by_test p q a b F same other =
    dite (ℕ_discrete p q) (λ e. subst F (sym (ap (λ c. if c then a else b) (eq-eqb p q e)))
    (same e)) (λ ne. subst F (sym (ap (λ c. if c then a else b) (ne_eqb p q ne))) (other ne))

pub from_map : {A B : Type 0} (f : A → B) (xs : List A) (y : B) → Contains (map f xs) y → (x : A)
    × Contains xs x × (f x ≡ y)
from_map f [] y c = let l = c.1 in absurd (omega arith)
from_map f (x ∷ xs) y (zero, l, e) = (x, here x xs, e)
from_map f (x ∷ xs) y (suc k, l, e) = let r = from_map f xs y (k, omega arith, e) in
    (r.0, there x r.0 xs r.1, r.2)

-- some seat stored n at the word i
abbrev pub IsStored : List (StepBy HintStep) → ℕ → ℕ → Type 0
IsStored order i n = (q : ℕ) × Contains order (step_by q (Store i n))

abbrev HasSource : List (StepBy HintStep) → HintStep → Type 0
HasSource order (Load i n) = n ≢ 0 → IsStored order i n
HasSource order (Store i n) = Unit {0}
HasSource order (ClearIf i n done) = Unit {0}

further : (e : StepBy HintStep) (es : List (StepBy HintStep)) (i n : ℕ) → IsStored es i n
    → IsStored (e ∷ es) i n
further e es i n s = (s.0, there e (step_by s.0 (Store i n)) es s.1)

still : (e : StepBy HintStep) (es : List (StepBy HintStep)) (d : HintStep) → HasSource es d
    → HasSource (e ∷ es) d
still e es (Load i n) s = λ ne. further e es i n (s ne)
still e es (Store i n) s = tt
still e es (ClearIf i n done) s = tt

module _ (es : List (StepBy HintStep)) (i : ℕ) (before : word_after i es ≢ 0 → IsStored es i
    (word_after i es)) where
  abbrev After : ℕ → HintStep → Option ℕ → Type 0
  After q d o = unwrap_or o (word_after i es) ≢ 0 → IsStored (step_by q d ∷ es) i
      (unwrap_or o (word_after i es))

  after_step : (q : ℕ) (d : HintStep) → After q d (value_written i d)
  after_step q (Load j n) = λ ne. further (step_by q (Load j n)) es i (word_after i es) (before ne)
  after_step q (Store j n) = by_test j i (Some n) None (After q (Store j n))
      (λ same ne. (q, (0, omega arith, λ k. step_by q (Store (same k) n))))
      (λ _ ne. further (step_by q (Store j n)) es i (word_after i es) (before ne))
  after_step q (ClearIf j n done) = by_bool ((j == i) && done)
    where
      by_bool : (b : Bool) → After q (ClearIf j n done) (if b then Some 0 else None)
      by_bool true = λ ne. absurd (ne refl)
      by_bool false = λ ne. further (step_by q (ClearIf j n done)) es i (word_after i es)
          (before ne)

-- a word that is not 0 has a stored value
pub stored_word : (es : List (StepBy HintStep)) (i : ℕ) → word_after i es ≢ 0 → IsStored es i
    (word_after i es)
stored_word [] i ne = absurd (ne refl)
stored_word (e ∷ es) i ne = after_step es i (stored_word es i) e.by e.step ne

source_of : (e : StepBy HintStep) (es : List (StepBy HintStep)) (d : HintStep) → AnswersAfter es d
    → HasSource (e ∷ es) d
source_of e es (Load i n) reads = λ ne. further e es i n (subst (λ (z : ℕ). IsStored es i z)
    (sym reads) (stored_word es i (λ z. ne (reads ∙ z))))
source_of e es (Store i n) reads = tt
source_of e es (ClearIf i n done) reads = tt

sources : (order : List (StepBy HintStep)) → IsLawful order → (p : ℕ) → All (HasSource order)
    (steps_of p order)
sources [] lawful p = All-nil (HasSource [])
sources (e ∷ es) lawful p = let rest = All-weaker (HasSource es) (HasSource (e ∷ es)) (still e es)
    (steps_of p es) (sources es lawful.1 p) in
    by_test e.by p (e.step ∷ steps_of p es) (steps_of p es) (All (HasSource (e ∷ es)))
    (λ _. All-cons (HasSource (e ∷ es)) e.step (steps_of p es)
    (source_of e es e.step lawful.0) rest)
    (λ _. rest)

-- a step of the seat q stands among its steps
pub among_own : (order : List (StepBy HintStep)) (q : ℕ) (d : HintStep)
    → Contains order (step_by q d) → Contains (steps_of q order) d
among_own [] q d c = let l = c.1 in absurd (omega arith)
among_own (e ∷ es) q d (zero, l, is) = by_test e.by q (e.step ∷ steps_of q es) (steps_of q es)
    (λ (ds : List HintStep). Contains ds d)
    (λ _. (0, omega arith, ap (λ (x : StepBy HintStep). x.step) is))
    (λ ne. absurd (ne (ap (λ (x : StepBy HintStep). x.by) is)))
among_own (e ∷ es) q d (suc k, l, is) = let rest = among_own es q d (k, omega arith, is) in
    by_test e.by q (e.step ∷ steps_of q es) (steps_of q es) (λ (ds : List HintStep). Contains ds d)
    (λ _. there e.step d (steps_of q es) rest) (λ _. rest)

module _ (seats : List (SeatView HintStep)) (order : List (StepBy HintStep))
    (lawful : IsLawful order) (parts : ArePartsOf order seats) where
  stored_by : (i n : ℕ) → IsStored order i n → IsStoredBy seats i n
  stored_by i n s =
      let one = from_map (λ (x : SeatView HintStep). x.number) seats s.0
      (All-contains (IsByOne seats) order (step_by s.0 (Store i n)) parts.whole s.1) in
      let own = All-contains (HasPart order) seats one.0 parts.each one.1 in
      record {
        seat = one.0;
        among = one.1;
        stores = subst (λ (ds : List HintStep). Contains ds (Store i n))
            (sym (own ∙ ap (λ (q : ℕ). steps_of q order) one.2))
            (among_own order s.0 (Store i n) s.1);
      }

  comes_from : (d : HintStep) → HasSource order d → ComesFrom seats d
  comes_from (Load i n) s = λ ne. stored_by i n (s ne)
  comes_from (Store i n) s = tt
  comes_from (ClearIf i n done) s = tt

  pub loads_are_stored : LoadsAreStored seats
  loads_are_stored = All-weaker (HasPart order) (λ (s : SeatView HintStep). All
      (ComesFrom seats) s.steps)
      (λ s own. subst (λ (ds : List HintStep). All (ComesFrom seats) ds) (sym own)
      (All-weaker (HasSource order) (ComesFrom seats) comes_from (steps_of s.number order)
      (sources order lawful s.number)))
      seats parts.each
