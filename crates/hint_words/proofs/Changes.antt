-- A word that a seat found changed was written in between.
use Rattle.std.proofs.Common.{◌≡◌, ◌≢◌, ◌⊎◌, inl, inr, ℕ, zero, suc, ◌<◌}
use Rattle.std.proofs.Common.{List, [], ◌∷◌, ◌++◌, Option, None, Some, length, sym}
use Rattle.std.proofs.Common.{refl, ap, ◌∙◌, subst, arith}
use Rattle.std.specs.List.{Contains}
use Rattle.std.specs.Option.{unwrap_or}
use Rattle.std.proofs.lemmas.List.Elements.{All-contains}
use mathlib.Core.Logic.{dite}
use native.Mathlib.Decide.{ℕ_discrete}
use Rattle.linearization.specs.Orders.{StepBy, step_by, steps_of}
use Rattle.linearization.specs.Seats.{HasPart, IsByOne, SeatView}
use Rattle.linearization.proofs.ListLemmas.{if_same, if_other}
use Rattle.hint_words.specs.Closings.{ChangesAreWritten, HaveEnded, IsWrittenBy, step_at}
use Rattle.hint_words.specs.declared.step.HintStep.{HintStep}
use Rattle.hint_words.specs.declared.step.HintStep.TheVariants.{Load}
use Rattle.hint_words.specs.Steps.{IsLawful, value_written, word_after}
use Rattle.hint_words.proofs.Sources.{among_own, from_map}

-- ---- the place of a seat's own step in an order

-- What is before a step of an order, and what is after it; the seat had made n steps.
pub record IsAt (order : List (StepBy HintStep)) (p n : ℕ) (d : HintStep) : Type 0 where
  pub newer : List (StepBy HintStep)
  pub older : List (StepBy HintStep)
  pub cut : order ≡ newer ++ step_by p d ∷ older
  pub count : length (steps_of p older) ≡ n

none-is : {A B : Type 0} (x : A) → None ≡ Some x → B
none-is x e = cc

pub is-at : (order : List (StepBy HintStep)) (p n : ℕ) (d : HintStep)
    → step_at (steps_of p order) n ≡ Some d → IsAt order p n d
is-at [] p n d at = none-is d at
is-at (e ∷ es) p n d at =
    dite (ℕ_discrete e.by p)
    (λ mine. by_count mine (is-at es p n d)
    (sym (ap (λ ds. step_at ds n) (if_same e.by p (e.step ∷ steps_of p es) (steps_of p es) mine))
    ∙ at))
    (λ other. later (is-at es p n d
    (sym (ap (λ ds. step_at ds n) (if_other e.by p (e.step ∷ steps_of p es) (steps_of p es) other))
    ∙ at)))
  where
    later : IsAt es p n d → IsAt (e ∷ es) p n d
    later x = record {
      newer = e ∷ x.newer;
      older = x.older;
      cut = ap (λ zs. e ∷ zs) x.cut;
      count = x.count;
    }

    by_count : e.by ≡ p → (step_at (steps_of p es) n ≡ Some d → IsAt es p n d)
        → step_at (e.step ∷ steps_of p es) n ≡ Some d → IsAt (e ∷ es) p n d
    by_count mine rest here =
        dite (ℕ_discrete (length (steps_of p es)) n)
        (λ last. record {
          newer = [];
          older = es;
          cut = λ k. record {
            by = mine k;
            step = some-is e.step d
                (sym (if_same (length (steps_of p es)) n (Some e.step)
                (step_at (steps_of p es) n) last) ∙ here) k;
          } ∷ es;
          count = last;
        })
        (λ older. later (rest
        (sym (if_other (length (steps_of p es)) n (Some e.step) (step_at (steps_of p es) n) older)
        ∙ here)))
      where
        some-is : {A : Type 0} (x y : A) → Some x ≡ Some y → x ≡ y
        some-is x y e = ap (λ o. unwrap_or o x) e

-- ---- lawful orders

pub older-lawful : (newer older : List (StepBy HintStep)) → IsLawful (newer ++ older)
    → IsLawful older
older-lawful [] older lawful = lawful
older-lawful (e ∷ newer) older lawful = older-lawful newer older lawful.1

-- a word is as it was before these steps, or what one of them wrote
record IsWrittenIn (order : List (StepBy HintStep)) (i n : ℕ) : Type 0 where
  step : StepBy HintStep
  among : Contains order step
  writes : value_written i step.step ≡ Some n

changed : (newer older : List (StepBy HintStep)) (i : ℕ)
    → (word_after i (newer ++ older) ≡ word_after i older)
    ⊎ IsWrittenIn newer i (word_after i (newer ++ older))
changed [] older i = inl refl
changed (e ∷ newer) older i = by_step (changed newer older i) (value_written i e.step) refl
  where
    later : {n : ℕ} → IsWrittenIn newer i n → IsWrittenIn (e ∷ newer) i n
    later x =
        let less = x.among.1 in
        record {
          step = x.step;
          among = (suc x.among.0, omega (arith, less), x.among.2);
          writes = x.writes;
        }

    by_step : (word_after i (newer ++ older) ≡ word_after i older)
        ⊎ IsWrittenIn newer i (word_after i (newer ++ older))
        → (o : Option ℕ) → value_written i e.step ≡ o
        → (unwrap_or o (word_after i (newer ++ older)) ≡ word_after i older)
        ⊎ IsWrittenIn (e ∷ newer) i (unwrap_or o (word_after i (newer ++ older)))
    by_step rest (Some n) is =
        inr (record { step = e; among = (0, omega arith, refl); writes = is })
    by_step rest None is = elim rest [
      | inl same ↦ inl same
      | inr written ↦ inr (later written)
    ]

-- ---- a seat's own list

member-of : (newer older : List (StepBy HintStep)) (e : StepBy HintStep) → Contains newer e
    → Contains (newer ++ older) e
member-of [] older e c = let less = c.1 in absurd (omega (arith, less))
member-of (x ∷ newer) older e (zero, less, is) = (0, omega arith, is)
member-of (x ∷ newer) older e (suc k, less, is) =
    let rest = member-of newer older e (k, omega (arith, less), is) in
    let small = rest.1 in (suc rest.0, omega (arith, small), rest.2)

pub member-older : (newer older : List (StepBy HintStep)) (e : StepBy HintStep) → Contains older e
    → Contains (newer ++ older) e
member-older [] older e c = c
member-older (x ∷ newer) older e c =
    let rest = member-older newer older e c in
    let small = rest.1 in (suc rest.0, omega (arith, small), rest.2)

-- a step is after all that are older
pub longer : (newer older : List (StepBy HintStep)) (p : ℕ) (d : HintStep)
    → length (steps_of p older) < length (steps_of p (newer ++ step_by p d ∷ older))
longer [] older p d =
    let n = ap length (if_same p p (d ∷ steps_of p older) (steps_of p older) refl) in
    omega (arith, n)
longer (x ∷ newer) older p d =
    let below = longer newer older p d in
    let rest : List HintStep = steps_of p (newer ++ step_by p d ∷ older) in
    dite (ℕ_discrete x.by p)
    (λ mine. let n = ap length (if_same x.by p (x.step ∷ rest) rest mine) in
    omega (arith, n, below))
    (λ other. let n = ap length (if_other x.by p (x.step ∷ rest) rest other) in
    omega (arith, n, below))

-- an older step of a list is one of what is before a newer one
among-older : (newer older : List (StepBy HintStep)) (p k : ℕ) (d e : HintStep)
    → k < length (steps_of p older) → step_at (steps_of p (newer ++ step_by p d ∷ older)) k ≡ Some e
    → step_at (steps_of p older) k ≡ Some e
among-older [] older p k d e less at =
    sym (ap (λ ds. step_at ds k) (if_same p p (d ∷ steps_of p older) (steps_of p older) refl)
    ∙ if_other (length (steps_of p older)) k (Some d) (step_at (steps_of p older) k)
    (λ same. absurd (omega (arith, less, same))))
    ∙ at
among-older (x ∷ newer) older p k d e less at =
    let rest : List HintStep = steps_of p (newer ++ step_by p d ∷ older) in
    among-older newer older p k d e less (dite (ℕ_discrete x.by p)
    (λ mine.
    let more = longer newer older p d in
    sym (ap (λ ds. step_at ds k) (if_same x.by p (x.step ∷ rest) rest mine)
    ∙ if_other (length rest) k (Some x.step) (step_at rest k)
    (λ same. absurd (omega (arith, less, same, more))))
    ∙ at)
    (λ other. sym (ap (λ ds. step_at ds k) (if_other x.by p (x.step ∷ rest) rest other)) ∙ at))

module _ (seats : List (SeatView HintStep)) (seat : SeatView HintStep) (i first second m n : ℕ)
    (ended : HaveEnded seats) (among : Contains seats seat) (before : first < second)
    (found : step_at seat.steps first ≡ Some (Load i m))
    (again : step_at seat.steps second ≡ Some (Load i n)) (other : m ≢ n) where
  abbrev p : ℕ
  p = seat.number

  own : seat.steps ≡ steps_of p ended.order
  own = All-contains (HasPart ended.order) seats seat ended.parts.each among

  later : IsAt ended.order p second (Load i n)
  later = is-at ended.order p second (Load i n) (ap (λ ds. step_at ds second) (sym own) ∙ again)

  earlier : IsAt later.older p first (Load i m)
  earlier =
      let count = later.count in
      is-at later.older p first (Load i m)
      (among-older later.newer later.older p first (Load i n) (Load i m)
      (omega (arith, before, count))
      (ap (λ es. step_at (steps_of p es) first) (sym later.cut)
      ∙ (ap (λ ds. step_at ds first) (sym own) ∙ found)))

  lawful : IsLawful (step_by p (Load i n) ∷ later.older)
  lawful = older-lawful later.newer (step_by p (Load i n) ∷ later.older)
      (subst IsLawful later.cut ended.lawful)

  lawful-first : IsLawful (step_by p (Load i m) ∷ earlier.older)
  lawful-first = older-lawful earlier.newer (step_by p (Load i m) ∷ earlier.older)
      (subst IsLawful earlier.cut lawful.1)

  -- what the later load found, over the steps since the earlier one
  is-now : n ≡ word_after i (earlier.newer ++ step_by p (Load i m) ∷ earlier.older)
  is-now = lawful.0 ∙ ap (word_after i) earlier.cut

  written : IsWrittenIn earlier.newer i n
  written =
      elim (changed earlier.newer (step_by p (Load i m) ∷ earlier.older) i) [
        | inl same ↦ absurd (other (lawful-first.0 ∙ (sym same ∙ sym is-now)))
        | inr now ↦ subst (IsWrittenIn earlier.newer i) (sym is-now) now
      ]

  in-order : Contains ended.order written.step
  in-order =
      subst (λ es. Contains es written.step) (sym later.cut)
      (member-older later.newer (step_by p (Load i n) ∷ later.older) written.step
      (member-older (step_by p (Load i n) ∷ []) later.older written.step
      (subst (λ es. Contains es written.step) (sym earlier.cut)
      (member-of earlier.newer (step_by p (Load i m) ∷ earlier.older) written.step
      written.among))))

  by-seat : IsWrittenBy seats i n
  by-seat =
      let one = from_map (λ (x : SeatView HintStep). x.number) seats written.step.by
      (All-contains (IsByOne seats) ended.order written.step ended.parts.whole in-order) in
      let part = All-contains (HasPart ended.order) seats one.0 ended.parts.each one.1 in
      record {
        seat = one.0;
        among = one.1;
        writes = record {
          step = written.step.step;
          does = subst (λ (ds : List HintStep). Contains ds written.step.step)
              (sym (part ∙ ap (λ (q : ℕ). steps_of q ended.order) one.2))
              (among_own ended.order written.step.by written.step.step in-order);
          writes = written.writes;
        };
      }

pub changes_are_written : ChangesAreWritten
changes_are_written = by-seat
