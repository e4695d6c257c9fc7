-- What the migration rule chooses for a class, case by case.
use Rattle.std.proofs.Common.{ℕ, ◌≡◌, ◌⊎◌, Bool, true, false, Option, Some, None, refl, ap, ◌∙◌}
use Rattle.std.proofs.Common.{inl, inr, subst, sym}
use Rattle.std.specs.Prelude.{◌==◌}
use Rattle.std.proofs.lemmas.Bool.{cases_Bool, cases_eq, eq-eqb, eqb-true, ne_eqb}
use Rattle.steer_base.specs.Choices.{by_entry, has_moved}
use Rattle.steer_base.specs.Counters.{has_reached}
use Rattle.steer_base.specs.Moves.{MovesByThree}
use Rattle.steer_base.specs.declared.choice.Choice.{Choice}

pub by_entry-class : (k : ℕ) (want : Option ℕ) (desired tail : ℕ) (head : ℕ → ℕ) (online : ℕ → Bool)
    (current : Option ℕ)
    → (by_entry k want desired tail head online current).class ≡ Some k
by_entry-class k want desired tail head online None = refl
by_entry-class k want desired tail head online (Some c) =
    elim (cases_Bool (c == desired)) [
      | inl s ↦ rw s refl
      | inr s ↦ elim (cases_Bool (online c)) [
        | inl o ↦ elim (cases_Bool (has_reached (head c) tail 0)) [
          | inl p ↦ rw (s, o, p) refl
          | inr p ↦ rw (s, o, p) refl
        ]
        | inr o ↦ rw (s, o) refl
      ]
    ]

-- the lane of a choice is the desired one or the current one
pub by_entry-lane : (k : ℕ) (want : Option ℕ) (desired tail : ℕ) (head : ℕ → ℕ) (online : ℕ → Bool)
    (current : Option ℕ)
    → ((by_entry k want desired tail head online current).lane ≡ desired)
    ⊎ (current ≡ Some (by_entry k want desired tail head online current).lane)
by_entry-lane k want desired tail head online None = inl refl
by_entry-lane k want desired tail head online (Some c) =
    elim (cases_Bool (c == desired)) [
      | inl s ↦ rw s (inr refl)
      | inr s ↦ elim (cases_Bool (online c)) [
        | inl o ↦ elim (cases_Bool (has_reached (head c) tail 0)) [
          | inl p ↦ rw (s, o, p) (inl refl)
          | inr p ↦ rw (s, o, p) (inr refl)
        ]
        | inr o ↦ rw (s, o) (inl refl)
      ]
    ]

-- a class on the lane a stays there; or the lane was offline; or its head, which was looked at, had
-- reached the tail
pub by_entry-ways : (k : ℕ) (want : Option ℕ) (desired tail : ℕ) (head : ℕ → ℕ) (online : ℕ → Bool)
    (a : ℕ) (t : Choice)
    → t ≡ by_entry k want desired tail head online (Some a)
    → ((has_moved t.why ≡ false) × (t.lane ≡ a))
    ⊎ ((online a ≡ false) ⊎ ((has_reached (head a) tail 0 ≡ true) × (t.head ≡ Some (head a))))
by_entry-ways k want desired tail head online a t e =
    elim (cases_Bool (a == desired)) [
      | inl s ↦ rw (e, s) (inl (refl, refl))
      | inr s ↦ elim (cases_Bool (online a)) [
        | inl o ↦ elim (cases_Bool (has_reached (head a) tail 0)) [
          | inl p ↦ rw (e, s, o, p) (inr (inr (refl, refl)))
          | inr p ↦ rw (e, s, o, p) (inl (refl, refl))
        ]
        | inr o ↦ inr (inl o)
      ]
    ]

-- a choice goes to a lane that is online
pub by_entry-online : (k : ℕ) (want : Option ℕ) (desired tail : ℕ) (head : ℕ → ℕ)
    (online : ℕ → Bool) (current : Option ℕ) → online desired ≡ true
    → online (by_entry k want desired tail head online current).lane ≡ true
by_entry-online k want desired tail head online None on = on
by_entry-online k want desired tail head online (Some a) on =
    elim (cases_Bool (a == desired)) [
      | inl s ↦ rw s (ap online (eqb-true a desired s) ∙ on)
      | inr s ↦ elim (cases_Bool (online a)) [
        | inl o ↦ elim (cases_Bool (has_reached (head a) tail 0)) [
          | inl p ↦ rw (s, o, p) on
          | inr p ↦ rw (s, o, p) o
        ]
        | inr o ↦ rw (s, o) on
      ]
    ]

-- ---- what the rule does with a class, by the three conditions

pub moves-by : (k : ℕ) (want : Option ℕ) (desired tail : ℕ) (head : ℕ → ℕ) (online : ℕ → Bool)
    (current : Option ℕ)
    → MovesByThree (by_entry k want desired tail head online current) desired tail head online
    current
moves-by k want desired tail head online None =
    record {
      cases = λ _. inl refl;
      may = (λ _. tt, λ _. refl);
      moved = λ _. refl;
      kept = λ e. absurd (cc);
    }
moves-by k want desired tail head online (Some lane) =
    elim (cases_eq lane desired) [
      | inl e ↦
          rw (eq-eqb lane desired e)
          (record {
            cases = λ f. absurd (cc);
            may = (λ f. absurd (cc), λ w. absurd (w.0 e));
            moved = λ f. absurd (cc);
            kept = λ _. refl;
          })
      | inr ne ↦ elim (cases_Bool (online lane)) [
        | inr off ↦
            rw (ne_eqb lane desired ne, off)
            (record {
              cases = λ _. inr (inl refl);
              may = (λ _. (ne, inl off), λ _. refl);
              moved = λ _. refl;
              kept = λ f. absurd (cc);
            })
        | inl on ↦ elim (cases_Bool (has_reached (head lane) tail 0)) [
          | inl reached ↦
              rw (ne_eqb lane desired ne, on, reached)
              (record {
                cases = λ _. inr (inr refl);
                may = (λ _. (ne, inr reached), λ _. refl);
                moved = λ _. refl;
                kept = λ f. absurd (cc);
              })
          | inr short ↦
              rw (ne_eqb lane desired ne, on, short)
              (record {
                cases = λ f. absurd (cc);
                may = (
                  λ f. absurd (cc),
                  λ w. absurd (not-both (online lane) (has_reached (head lane) tail 0) on short
                      w.1),
                );
                moved = λ f. absurd (cc);
                kept = λ _. refl;
              })
        ]
      ]
    ]
  where
    not-both : (on reached : Bool) → on ≡ true → reached ≡ false
        → (on ≡ false) ⊎ (reached ≡ true) → ⊥
    not-both on reached e f (inl g) = (let h : true ≡ false = sym e ∙ g in cc)
    not-both on reached e f (inr g) = (let h : true ≡ false = sym g ∙ f in cc)

pub moves-of : (c : Choice) (k : ℕ) (want : Option ℕ) (desired tail : ℕ) (head : ℕ → ℕ)
    (online : ℕ → Bool) (current : Option ℕ)
    → c ≡ by_entry k want desired tail head online current
    → MovesByThree c desired tail head online current
moves-of c k want desired tail head online current is =
    subst (λ (d : Choice). MovesByThree d desired tail head online current) (sym is)
    (moves-by k want desired tail head online current)
