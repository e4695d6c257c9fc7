-- When a choice is by the migration rule over a flow table.
use Rattle.std.specs.Prelude.{ℕ, ◌≡◌, Option, unwrap_or}
use Rattle.std.specs.Option.{option_map}
use Rattle.steer_base.specs.Choices.{migrate}
use Rattle.steer_base.specs.Sets.{has}
use Rattle.steer_base.specs.declared.choice.Choice.{Choice}
use Rattle.steer_base.specs.declared.choice.Chosen.{Chosen}
use Rattle.steer_base.specs.declared.cpu_mask.CpuMask.{CpuMask}
use Rattle.steer_base.specs.declared.put.Put.TheVariants.{At}
use Rattle.dev_flow_table.specs.Folds.{Placement}
use Rattle.dev_flow_table.specs.Tables.{Table, entries}

-- A choice is the rule's, over the entries of a table, for this class, want and desired lane, with
-- the head that the choice itself keeps.
abbrev pub IsByTable : Table → Choice → Option ℕ → Option ℕ → ℕ → CpuMask → Type 0
IsByTable table choice class want desired online =
    choice
    ≡ migrate class want desired (entries table) (λ lane. unwrap_or choice.head 0) (has online)

-- a choice with the put of its packet: accepted at this position, or not accepted
abbrev pub placed_at : Chosen → Option ℕ → Placement
placed_at chosen position =
    record { chosen = chosen; put = option_map (λ shown. At shown) position }
