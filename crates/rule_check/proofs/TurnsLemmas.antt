-- The choices of a producer, turn by turn.
use Rattle.std.proofs.Common.{ℕ, suc, ◌≡◌, ◌<◌, List, ◌∷◌, Option, Some, None, length, drop, refl}
use Rattle.std.proofs.Common.{◌∙◌, sym, arith, get_or, subst}
use Rattle.std.specs.Option.{option_map}
use Rattle.std.proofs.Math.Seq.{drop-cons}
use Rattle.std.proofs.lemmas.List.{length-set}
use Rattle.steer_base.specs.declared.choice.Chosen.{Chosen}
use Rattle.steer_base.specs.declared.put.Put.TheVariants.{At}
use Rattle.dev_flow_table.specs.Folds.{after_turn, table_after}
use Rattle.dev_flow_table.specs.Tables.{IsClassOf, Table, entry_after, entries, weighed}
use Rattle.rule_check.specs.Rules.{placed_at}
use Rattle.rule_check.specs.Turns.{AreByTurns, Questions}

rows-weighed : (table : Table) (class : Option ℕ) (chosen : Chosen)
    → length (weighed table class chosen.choice).rows ≡ length table.rows
rows-weighed table None chosen = refl
rows-weighed table (Some class) chosen =
    length-set table.rows class (entry_after table.start (entries table class) chosen.choice)

rows-after : (table : Table) (class position : Option ℕ)
    → length (table_after table class (option_map (λ p. At p) position)).rows ≡ length table.rows
rows-after table None position = refl
rows-after table (Some class) None = refl
rows-after table (Some class) (Some p) =
    length-set table.rows class (record (entries table class) { tail = p })

-- a turn keeps the number of rows
pub rows-turn : (table : Table) (chosen : Chosen) (position : Option ℕ)
    → length (after_turn table (placed_at chosen position)).rows ≡ length table.rows
rows-turn table chosen position =
    rows-after (weighed table chosen.choice.class chosen.choice) chosen.choice.class position
    ∙ rows-weighed table chosen.choice.class chosen

pub class-kept : (old new : Table) (class : Option ℕ) → length new.rows ≡ length old.rows
    → IsClassOf old class → IsClassOf new class
class-kept old new None e h = h
class-kept old new (Some class) e h = omega (arith, e, h)

-- the choices from an index on, by the one there
pub turns-at : (asks : Questions) (table : Table) (cs : List Chosen) (i : ℕ) (d : Chosen)
    → i < length cs → AreByTurns asks table (drop i cs)
    → AreByTurns asks table (get_or cs i d ∷ drop (suc i) cs)
turns-at asks table cs i d l h = subst (λ xs. AreByTurns asks table xs) (drop-cons cs i d l) h

pub turns-back : (asks : Questions) (table : Table) (cs : List Chosen) (i : ℕ) (d : Chosen)
    → i < length cs → AreByTurns asks table (get_or cs i d ∷ drop (suc i) cs)
    → AreByTurns asks table (drop i cs)
turns-back asks table cs i d l h =
    subst (λ xs. AreByTurns asks table xs) (sym (drop-cons cs i d l)) h
