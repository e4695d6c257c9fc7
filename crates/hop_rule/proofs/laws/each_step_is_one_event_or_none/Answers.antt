use Rattle.hop_rule.proofs.Events.{begins_fresh, each_step_is_an_event}
use Rattle.hop_rule.proofs.laws.each_step_is_one_event_or_none.Goals as goal

pub returns-clause-begins : goal.returns-clause-begins
returns-clause-begins c = begins_fresh

pub returns-clause-event : goal.returns-clause-event
returns-clause-event c = each_step_is_an_event
