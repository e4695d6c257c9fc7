use Rattle.hop_core.proofs.Leaves.{each_leaves}
use Rattle.hop_core.proofs.Others.{each_leaves_lanes, each_leaves_producers}
use Rattle.hop_core.proofs.state_laws.each_event_leaves_the_rest.Goals as goal

pub returns-clause-fields : goal.returns-clause-fields
returns-clause-fields c = each_leaves

pub returns-clause-producers : goal.returns-clause-producers
returns-clause-producers c = each_leaves_producers

pub returns-clause-lanes : goal.returns-clause-lanes
returns-clause-lanes c = each_leaves_lanes
