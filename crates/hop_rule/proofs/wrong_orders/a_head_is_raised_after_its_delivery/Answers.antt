use Rattle.hop_rule.proofs.Unlawful.{retires_before_delivery}
use Rattle.hop_rule.proofs.wrong_orders.a_head_is_raised_after_its_delivery.Goals as goal

pub returns : goal.returns
returns c = retires_before_delivery
