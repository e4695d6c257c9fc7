use Rattle.hop_rule.proofs.Unlawful.{puts_elsewhere}
use Rattle.hop_rule.proofs.wrong_orders.a_put_is_into_the_held_lane.Goals as goal

pub returns : goal.returns
returns c = puts_elsewhere
