use Rattle.board_api.proofs.AddedSteps.{taken_lanes_are_held}
use Rattle.board_api.proofs.own_laws.a_taken_lane_is_held.Goals as goal

pub returns : goal.returns
returns c = taken_lanes_are_held
