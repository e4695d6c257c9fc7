-- What a choice by the rule does with a class of a table.
use Rattle.std.proofs.Common.{ℕ, Bool, Option, Some, None, refl, ap, inl}
use Rattle.std.proofs.Common.{inr, sym, subst}
use Rattle.std.specs.Prelude.{◌==◌}
use Rattle.std.proofs.lemmas.Bool.{cases_Bool}
use Rattle.std.proofs.lemmas.List.{get_or-set_same}
use Rattle.steer_base.specs.Choices.{by_entry}
use Rattle.steer_base.specs.Counters.{has_reached}
use Rattle.steer_base.specs.declared.choice.Choice.{Choice}
use Rattle.steer_base.specs.declared.choice.Entry.{Entry}
use Rattle.steer_base.proofs.RuleLemmas.{moves-of}
use Rattle.dev_flow_table.specs.Moves.{ChoiceIsRecorded, ClassMovesByThree, MoveHasItsReason}
use Rattle.dev_flow_table.specs.Moves.{ReasonHolds}
use Rattle.dev_flow_table.specs.Tables.{entries, entry_after, unset}

pub moves_by_three : ClassMovesByThree
moves_by_three t class want desired head online choice is =
    moves-of choice class want desired (entries t class).tail head online (entries t class).lane is

reason-by : (k : ℕ) (want : Option ℕ) (desired tail : ℕ) (head : ℕ → ℕ) (online : ℕ → Bool)
    (current : Option ℕ)
    → ReasonHolds (record { lane = current; tail = tail }) head online
    (by_entry k want desired tail head online current).why
reason-by k want desired tail head online None = record {
  unset = λ _. refl;
  offline = λ e. absurd (cc);
  passed = λ e. absurd (cc);
}
reason-by k want desired tail head online (Some lane) =
    elim (cases_Bool (lane == desired)) [
      | inl s ↦ rw s (record {
        unset = λ e. absurd (cc);
        offline = λ e. absurd (cc);
        passed = λ e. absurd (cc);
      })
      | inr s ↦ elim (cases_Bool (online lane)) [
        | inr off ↦ rw (s, off) (record {
          unset = λ e. absurd (cc);
          offline = λ _. off;
          passed = λ e. absurd (cc);
        })
        | inl on ↦ elim (cases_Bool (has_reached (head lane) tail 0)) [
          | inl reached ↦ rw (s, on, reached) (record {
            unset = λ e. absurd (cc);
            offline = λ e. absurd (cc);
            passed = λ _. reached;
          })
          | inr short ↦ rw (s, on, short) (record {
            unset = λ e. absurd (cc);
            offline = λ e. absurd (cc);
            passed = λ e. absurd (cc);
          })
        ]
      ]
    ]

pub has_its_reason : MoveHasItsReason
has_its_reason t class want desired head online choice is =
    let e : Entry = entries t class in
    subst (λ (c : Choice). ReasonHolds e head online c.why) (sym is)
    (reason-by class want desired e.tail head online e.lane)

pub choice_is_recorded : ChoiceIsRecorded
choice_is_recorded t class choice within =
    ap (λ (e : Entry). e.lane) (get_or-set_same t.rows class
    (entry_after t.start (entries t class) choice) (unset t.start) within)
