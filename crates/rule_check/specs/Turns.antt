-- When the choices of a producer are by the rule, one after the other.
use Rattle.std.specs.Prelude.{ℕ, List, [], ◌∷◌, Option, ⊤}
use Rattle.steer_base.specs.declared.choice.Chosen.{Chosen}
use Rattle.steer_base.specs.declared.cpu_mask.CpuMask.{CpuMask}
use Rattle.dev_flow_table.specs.Folds.{after_turn}
use Rattle.dev_flow_table.specs.Tables.{Table}
use Rattle.rule_check.specs.Rules.{IsByTable, placed_at}

-- what the rule is asked with for a choice, and the position at which its packet was accepted
pub record Questions : Type 0 where
  pub class : Chosen → Option ℕ
  pub want : Chosen → Option ℕ
  pub desired : Chosen → ℕ
  pub position : Chosen → Option ℕ
  pub online : CpuMask

-- Each choice is by the rule over the table that the choices before it left.
abbrev pub AreByTurns : Questions → Table → List Chosen → Type 0
AreByTurns asks table [] = ⊤
AreByTurns asks table (c ∷ cs) =
    IsByTable table c.choice (asks.class c) (asks.want c) (asks.desired c) asks.online
    × AreByTurns asks (after_turn table (placed_at c (asks.position c))) cs
