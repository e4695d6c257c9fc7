use Rattle.hop_rule.proofs.Closes.{busy_lanes_have_packets, found_visits_are_open}
use Rattle.hop_rule.proofs.laws.a_busy_gate_or_lane_was_busy.Goals as goal

pub returns-clause-visits : goal.returns-clause-visits
returns-clause-visits c = found_visits_are_open

pub returns-clause-lanes : goal.returns-clause-lanes
returns-clause-lanes c = busy_lanes_have_packets
