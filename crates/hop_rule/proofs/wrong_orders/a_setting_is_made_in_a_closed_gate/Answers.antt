use Rattle.hop_rule.proofs.Unlawful.{sets_in_an_open_gate}
use Rattle.hop_rule.proofs.wrong_orders.a_setting_is_made_in_a_closed_gate.Goals as goal

pub returns : goal.returns
returns c = sets_in_an_open_gate
