-- What a choice by the rule has: a head exactly where the rule looks at one, and its class.
use Rattle.std.proofs.Common.{ℕ, ◌≡◌, Bool, ◌==◌, Option, Some, None, refl, ap, ◌∙◌}
use Rattle.std.proofs.Common.{sym, inl, inr}
use Rattle.std.specs.Prelude.{unwrap_or}
use Rattle.std.specs.Option.{is_some, option_map}
use Rattle.std.proofs.lemmas.Bool.{cases_Bool}
use Rattle.steer_base.specs.Choices.{by_entry, looks_at_head, looks_from, migrate}
use Rattle.steer_base.specs.Counters.{has_reached}
use Rattle.steer_base.specs.Sets.{has}
use Rattle.steer_base.specs.declared.choice.Choice.{Choice}
use Rattle.steer_base.specs.declared.choice.Chosen.{Chosen}
use Rattle.steer_base.specs.declared.choice.Entry.{Entry}
use Rattle.steer_base.specs.declared.cpu_mask.CpuMask.{CpuMask}
use Rattle.steer_base.specs.declared.put.Put.TheVariants.{At}
use Rattle.dev_flow_table.specs.Folds.{after_turn, table_after}
use Rattle.dev_flow_table.specs.Tables.{Table, entries, recorded, weighed}
use Rattle.rule_check.specs.Rules.{IsByTable, placed_at}

by_looks : (class : ℕ) (want : Option ℕ) (desired tail : ℕ) (head : ℕ → ℕ) (online : ℕ → Bool)
    (lane : Option ℕ)
    → is_some (by_entry class want desired tail head online lane).head
    ≡ looks_from lane desired online
by_looks class want desired tail head online None = refl
by_looks class want desired tail head online (Some current) =
    elim (cases_Bool (current == desired)) [
      | inl s ↦ rw s refl
      | inr s ↦ elim (cases_Bool (online current)) [
        | inl o ↦ elim (cases_Bool (has_reached (head current) tail 0)) [
          | inl r ↦ rw (s, o, r) refl
          | inr r ↦ rw (s, o, r) refl
        ]
        | inr o ↦ rw (s, o) refl
      ]
    ]

looks : (class want : Option ℕ) (desired : ℕ) (es : ℕ → Entry) (head : ℕ → ℕ) (online : ℕ → Bool)
    → is_some (migrate class want desired es head online).head
    ≡ looks_at_head class es desired online
looks None want desired es head online = refl
looks (Some class) want desired es head online =
    by_looks class want desired (es class).tail head online (es class).lane

pub head-looked : (table : Table) (choice : Choice) (class want : Option ℕ) (desired : ℕ)
    (online : CpuMask) → IsByTable table choice class want desired online
    → is_some choice.head ≡ looks_at_head class (entries table) desired (has online)
head-looked table choice class want desired online e =
    ap (λ c. is_some c.head) e
    ∙ looks class want desired (entries table) (λ lane. unwrap_or choice.head 0) (has online)

by_class : (class : ℕ) (want : Option ℕ) (desired tail : ℕ) (head : ℕ → ℕ) (online : ℕ → Bool)
    (lane : Option ℕ)
    → (by_entry class want desired tail head online lane).class ≡ Some class
by_class class want desired tail head online None = refl
by_class class want desired tail head online (Some current) =
    elim (cases_Bool (current == desired)) [
      | inl s ↦ rw s refl
      | inr s ↦ elim (cases_Bool (online current)) [
        | inl o ↦ elim (cases_Bool (has_reached (head current) tail 0)) [
          | inl r ↦ rw (s, o, r) refl
          | inr r ↦ rw (s, o, r) refl
        ]
        | inr o ↦ rw (s, o) refl
      ]
    ]

pub migrate-class : (class want : Option ℕ) (desired : ℕ) (es : ℕ → Entry) (head : ℕ → ℕ)
    (online : ℕ → Bool) → (migrate class want desired es head online).class ≡ class
migrate-class None want desired es head online = refl
migrate-class (Some class) want desired es head online =
    by_class class want desired (es class).tail head online (es class).lane

-- a choice by the rule has the class that it was asked with
pub class-is : (table : Table) (choice : Choice) (class want : Option ℕ) (desired : ℕ)
    (online : CpuMask) → IsByTable table choice class want desired online → choice.class ≡ class
class-is table choice class want desired online e =
    ap (λ c. c.class) e
    ∙ migrate-class class want desired (entries table) (λ lane. unwrap_or choice.head 0)
    (has online)

-- the table after the placement of a choice by the rule, accepted nowhere or at a position
placed : (table : Table) (chosen : Chosen) (asked position : Option ℕ)
    → chosen.choice.class ≡ asked
    → table_after (weighed table asked chosen.choice) asked (option_map (λ p. At p) position)
    ≡ after_turn table (placed_at chosen position)
placed table chosen asked position e =
    ap (λ k. table_after (weighed table k chosen.choice) k (option_map (λ p. At p) position))
    (sym e)

pub placed-nowhere : (table new : Table) (chosen : Chosen) (asked position : Option ℕ) (class : ℕ)
    → asked ≡ Some class → position ≡ None → chosen.choice.class ≡ asked
    → new ≡ weighed table asked chosen.choice → new ≡ after_turn table (placed_at chosen position)
placed-nowhere table new chosen asked position class a p e t =
    let same : weighed table asked chosen.choice
    ≡ table_after (weighed table asked chosen.choice) asked (option_map (λ p. At p) position) =
    rw (a, p) refl in
    t ∙ same ∙ placed table chosen asked position e

pub placed-there : (table new : Table) (chosen : Chosen) (asked position : Option ℕ)
    (class n : ℕ) → asked ≡ Some class → position ≡ Some n → chosen.choice.class ≡ asked
    → new ≡ recorded (weighed table asked chosen.choice) class n
    → new ≡ after_turn table (placed_at chosen position)
placed-there table new chosen asked position class n a p e t =
    let same : recorded (weighed table asked chosen.choice) class n
    ≡ table_after (weighed table asked chosen.choice) asked (option_map (λ p. At p) position) =
    rw (a, p) refl in
    t ∙ same ∙ placed table chosen asked position e

-- two tables that have the same entry of a class give one choice for it
pub migrate-at : (class want : Option ℕ) (desired : ℕ) (es fs : ℕ → Entry) (head : ℕ → ℕ)
    (online : ℕ → Bool) → ((k : ℕ) → class ≡ Some k → es k ≡ fs k)
    → migrate class want desired es head online ≡ migrate class want desired fs head online
migrate-at None want desired es fs head online h = refl
migrate-at (Some class) want desired es fs head online h =
    ap (λ e. by_entry class want desired e.tail head online e.lane) (h class refl)
