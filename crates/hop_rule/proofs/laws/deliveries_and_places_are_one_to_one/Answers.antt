use Rattle.hop_rule.proofs.Puts.{each_delivery_is_right, each_member_was_given, places_rise}
use Rattle.hop_rule.proofs.laws.deliveries_and_places_are_one_to_one.Goals as goal

pub returns-clause-delivery : goal.returns-clause-delivery
returns-clause-delivery c = each_delivery_is_right

pub returns-clause-member : goal.returns-clause-member
returns-clause-member c = each_member_was_given

pub returns-clause-rise : goal.returns-clause-rise
returns-clause-rise c = places_rise
