use Rattle.hop_rule.proofs.OwnMoments.{own_steps_have_moments}
use Rattle.hop_rule.proofs.laws.own_steps_stand_in_the_order.Goals as goal

pub returns : goal.returns
returns c = own_steps_have_moments
