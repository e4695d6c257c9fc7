use Rattle.hop_rule.proofs.GateWords.{gate_word_counts_visits}
use Rattle.hop_rule.proofs.laws.the_gate_word_counts_visits.Goals as goal

pub returns : goal.returns
returns c = gate_word_counts_visits
