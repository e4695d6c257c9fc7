use Rattle.hop_core.proofs.BareEvents.{bare_keeps_lanes, each_is_bare, each_lane_is_its_own}
use Rattle.hop_core.proofs.BareEvents.{sound_has_lanes}
use Rattle.hop_core.proofs.state_laws.each_event_is_one_of_the_bare_part.Goals as goal

pub returns-clause-each : goal.returns-clause-each
returns-clause-each c = each_is_bare

pub returns-clause-lanes : goal.returns-clause-lanes
returns-clause-lanes c = each_lane_is_its_own

pub returns-clause-sound : goal.returns-clause-sound
returns-clause-sound c = sound_has_lanes

pub returns-clause-stay : goal.returns-clause-stay
returns-clause-stay c = bare_keeps_lanes
