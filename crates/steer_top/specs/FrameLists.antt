-- What the commands `hash` and `place` keep of the frames that they have taken.
use Rattle.std.specs.Prelude.{◌≡◌, ℕ, List, [], map}
use Rattle.flow_dissector.specs.Frame.{flow_of}
use Rattle.steer_top.specs.PlaceText.{placed_flow}
use Rattle.steer_top.specs.declared.hasher.Hasher.{Hasher}
use Rattle.steer_top.specs.declared.placer.Placer.{Placer}

-- The first has no flows, and the second has those of these frames, by the same table and kinds.
pub record TakesFlows (first : Hasher) (frames : List (List ℕ)) (hasher : Hasher) : Type 0 where
  pub empty : first.flows ≡ []
  pub table : hasher.table ≡ first.table
  pub kinds : hasher.kinds ≡ first.kinds
  pub flows : hasher.flows ≡ map flow_of frames

-- The first has no flows, and the second has those of these frames and the levels that were entered
-- to reach them, by the same rules.
pub record TakesPlaced (first : Placer) (frames : List (List ℕ)) (placer : Placer) : Type 0 where
  pub empty : first.placed ≡ []
  pub rules : placer.rules ≡ first.rules
  pub placed : placer.placed ≡ map (placed_flow first.rules) frames
