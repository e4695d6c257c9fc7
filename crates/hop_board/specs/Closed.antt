-- The fields of a board besides its words and slots.
use Rattle.std.specs.Prelude.{◌≡◌, ◌≤◌, [], replicate, vec_capacity}
use Rattle.atomic_table.specs.Seated.{TableId}
use Rattle.steer_base.specs.Journals.{journal}
use Rattle.hop_rule.specs.Sizes.{FitSizes}
use Rattle.hop_rule.specs.declared.sizes.BoardSizes.{BoardSizes}
use Rattle.hop_board.specs.Tables.{all_slots, width}
use Rattle.hop_board.specs.declared.spare.Spare.{Spare}

-- The spare memory is enough for the lists that a board of these sizes leaves.
pub record HasRoom (about : BoardSizes) (spare : Spare) : Type 0 where
  pub accepted : spare.accepted.items ≡ replicate about.lanes (journal [] about.room)
  pub drops : spare.drops.items ≡ replicate about.lanes (journal [] about.room)
  pub lanes : spare.lanes.items ≡ []
  pub lanes_room : about.lanes ≤ vec_capacity spare.lanes
  pub outs : spare.outs.items ≡ []
  pub outs_room : about.outs ≤ vec_capacity spare.outs

-- A board of these sizes: its table was made with them and has a word and a slot for each.
pub record IsBoard (told : BoardSizes) (table : TableId) (about : BoardSizes) (spare : Spare)
    : Type 0 where
  pub told_is : told ≡ about
  pub words : table.words ≡ width about
  pub slots : table.slots ≡ all_slots about
  pub fit : FitSizes about
  pub room : HasRoom about spare
