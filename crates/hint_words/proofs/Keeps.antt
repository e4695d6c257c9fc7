-- Each step keeps the rule of the words.
use Rattle.std.proofs.Common.{◌≡◌, ◌≢◌, ℕ, ◌+◌, ◌<◌, ◌&&◌, eqb, Bool, true, false, List, [], ◌∷◌}
use Rattle.std.proofs.Common.{Option, None, Some, get_or, set, slice_index, replicate, length}
use Rattle.std.proofs.Common.{if◌then◌else◌, sym, refl, ap, ◌∙◌, subst, arith, length-set}
use Rattle.std.proofs.Common.{get_or-set_same, get_or-set_other, eq-eqb, ne_eqb}
use Rattle.std.specs.Option.{unwrap_or}
use mathlib.Core.Logic.{dite}
use mathlib.Core.Option.{none}
use native.Mathlib.Decide.{ℕ_discrete}
use lib.ListN.{get_or-replicate, length-replicate}
use prog.Atomic.{either}
use Rattle.atomic_table.specs.Table.{Me, Allows, step, keeps, opening}
use Rattle.linearization.specs.declared.hands.Hands.{Hands}
use Rattle.linearization.specs.Orders.{StepBy, step_by, AreBySeats}
use Rattle.linearization.specs.Views.{one, number_in, steps_in, all_hands}
use Rattle.linearization.specs.Rules.{Ordered, Made}
use Rattle.linearization.proofs.RuleLemmas.{goes, moves}
use Rattle.linearization.proofs.ViewLemmas.{views_open}
use Rattle.hint_words.specs.declared.step.HintStep.{HintStep}
use Rattle.hint_words.specs.declared.step.HintStep.TheVariants.{Load, Store, ClearIf}
use Rattle.hint_words.specs.declared.sizes.Sizes.{Sizes}
use Rattle.linearization.specs.Prefixes.{Found}
use Rattle.hint_words.specs.Steps.{value_written, word_after, AnswersAfter, IsLawful}
use Rattle.hint_words.specs.Tables.{HasLastWrites, load_of, store_of, clear_of}

abbrev Seated : Type 0
Seated = Me (Unit {0}) (Hands HintStep)

-- the one hand of a seat, which has taken nothing
abbrev pub Alone : Seated → Type 0
Alone me = me ≡ (one (number_in me.0) (steps_in me.0), [])

module _ (about : Sizes) where
  -- a step at the word i, which becomes m
  kept : (order : List (StepBy HintStep)) (words : List ℕ)
      (homes : List (mathlib.Core.Option.Option (Unit {0}))) (p i m : ℕ) (d : HintStep)
      → i < about.words → HasLastWrites about order words homes
      → AnswersAfter order d → unwrap_or (value_written i d) (slice_index words i) ≡ m
      → ((j : ℕ) → j ≢ i → value_written j d ≡ None) → HasLastWrites about (step_by p d ∷ order)
      (set words i m) homes
  kept order words homes p i m d inside h answers becomes none_else =
      let count = h.counted in record {
        lawful = (answers, h.lawful);
        counted = length-set words i m ∙ h.counted;
        each = λ j l. dite (ℕ_discrete j i)
            (λ same. subst (λ (z : ℕ). get_or (set words i m) z 0 ≡ unwrap_or (value_written z d)
            (word_after z order)) (sym same)
            (get_or-set_same words i m 0 (omega arith)
            ∙ (sym becomes ∙ ap (λ (x : ℕ). unwrap_or (value_written i d) x) (h.each i inside))))
            (λ other. get_or-set_other words i j m 0 other
            ∙ (h.each j l ∙ sym (ap (λ (o : Option ℕ). unwrap_or o (word_after j order))
            (none_else j other))));
      }

  found : (k i a b : ℕ) (slots : ℕ) (order : List (StepBy HintStep)) (words : List ℕ)
      (homes : List (mathlib.Core.Option.Option (Unit {0}))) → k ≡ about.seats → i < about.words
      → AreBySeats about.seats order → HasLastWrites about order words homes
      → Found {S = Unit {0}} IsLawful word_after k (step slots i a b none)
      (slice_index words i) order
  found k i a b slots order words homes counted inside by h =
      record {
        is_lawful = h.lawful;
        by_seats = subst (λ (n : ℕ). AreBySeats n order)
            (sym counted) by;
        value = h.each i inside;
      }

  pub loads : (k slots id : ℕ) (me : Seated) (i : ℕ) → k ≡ about.seats → i < about.words → Alone me
      → Allows (Ordered about.seats (HasLastWrites about)) slots id me i (λ n. n)
      (Made load_of (Found IsLawful word_after k) (step slots i 0 0 none) me)
  loads k slots id me i counted inside alone = goes about.seats (HasLastWrites about) load_of
      (Found IsLawful word_after k) (step slots i 0 0 none) slots id me i (λ n. n) alone
      (λ order words homes by _ _ h. (
        kept order words homes (number_in me.0) i (slice_index words i)
            (Load i (slice_index words i)) inside h (h.each i inside) refl (λ j _. refl),
        found k i 0 0 slots order words homes counted inside by h,
      ))

  pub stores : (slots id : ℕ) (me : Seated) (i v : ℕ) → i < about.words → Alone me
      → Allows (Ordered about.seats (HasLastWrites about)) slots id me i (λ _. v)
      (λ _. Made store_of (λ st n order. Unit {0}) (step slots i v 0 none) me v)
  stores slots id me i v inside alone = moves about.seats (HasLastWrites about) slots id me i
      (λ _. v) (λ _. Made store_of (λ st n order. Unit {0}) (step slots i v 0 none) me v)
      (ap (λ m. m.0) alone)
      (λ order words homes _ _ _ _ own h. (
        Store i v,
        keeps,
        tt,
        kept order words homes (number_in me.0) i v (Store i v) inside h tt
            (ap (λ b. unwrap_or (if b then Some v else None) (slice_index words i))
            (eq-eqb i i refl))
            (λ j ne. ap (λ b. if b then Some v else None) (ne_eqb i j (λ e. ne (sym e)))),
        record { adds = refl; order = order; part = own; told = tt },
      ))

  cleared : (b : Bool) (x : ℕ) → unwrap_or (if b then Some 0 else None) x ≡ either b 0 x
  cleared true x = refl
  cleared false x = refl

  pub clears : (k slots id : ℕ) (me : Seated) (i v : ℕ) → k ≡ about.seats → i < about.words
      → Alone me
      → Allows (Ordered about.seats (HasLastWrites about)) slots id me i (λ n. either (eqb n v) 0 n)
      (Made clear_of (Found IsLawful word_after k) (step slots i v 0 none) me)
  clears k slots id me i v counted inside alone = goes about.seats (HasLastWrites about) clear_of
      (Found IsLawful word_after k) (step slots i v 0 none) slots id me i
      (λ n. either (eqb n v) 0 n) alone
      (λ order words homes by _ _ h. let n : ℕ = slice_index words i in (
        kept order words homes (number_in me.0) i (either (eqb n v) 0 n)
            (ClearIf i v (eqb n v)) inside h (ap (λ (x : ℕ). eqb x v) (h.each i inside))
            (ap (λ b. unwrap_or (if (b && eqb n v) then Some 0 else None) n) (eq-eqb i i refl)
            ∙ cleared (eqb n v) n)
            (λ j ne. ap (λ b. if (b && eqb n v) then Some 0 else None)
            (ne_eqb i j (λ e. ne (sym e)))),
        found k i v 0 slots order words homes counted inside by h,
      ))

  -- before any step each word is 0
  pub opens : (words : List ℕ) → words ≡ replicate (about.words + 1) 0 → Ordered about.seats
      (HasLastWrites about) (opening words [] (all_hands about.seats))
  opens words are = record {
    order = [];
    lawfully = record {
      lawful = tt;
      counted = ap length are ∙ length-replicate (about.words + 1) 0;
      each = λ i l. ap (λ (w : List ℕ). get_or w i 0) are ∙ get_or-replicate (about.words + 1) i 0 0
          (omega arith);
    };
    views_are = views_open about.seats;
  }
