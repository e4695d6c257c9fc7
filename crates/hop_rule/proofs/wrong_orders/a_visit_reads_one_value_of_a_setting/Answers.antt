use Rattle.hop_rule.proofs.Unlawful.{reads_two_values}
use Rattle.hop_rule.proofs.wrong_orders.a_visit_reads_one_value_of_a_setting.Goals as goal

pub returns : goal.returns
returns c = reads_two_values
