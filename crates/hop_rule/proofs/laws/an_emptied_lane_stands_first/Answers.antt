use Rattle.hop_rule.proofs.EarlyFirst.{emptied_lanes_stand_first, heads_are_below_tails}
use Rattle.hop_rule.proofs.laws.an_emptied_lane_stands_first.Goals as goal

pub returns-clause-first : goal.returns-clause-first
returns-clause-first c = emptied_lanes_stand_first

pub returns-clause-counts : goal.returns-clause-counts
returns-clause-counts c = heads_are_below_tails
