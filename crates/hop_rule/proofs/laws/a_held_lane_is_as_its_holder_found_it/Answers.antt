use Rattle.hop_rule.proofs.Holders.{middle_lanes_are_held_by_one, out_lanes_are_held_by_one}
use Rattle.hop_rule.proofs.laws.a_held_lane_is_as_its_holder_found_it.Goals as goal

pub returns-clause-middle : goal.returns-clause-middle
returns-clause-middle c = middle_lanes_are_held_by_one

pub returns-clause-out : goal.returns-clause-out
returns-clause-out c = out_lanes_are_held_by_one
