use Rattle.hop_model.proofs.Pairs.{prefix_from_pairs}
use Rattle.hop_core.proofs.laws.pairs_in_order_make_a_prefix.Goals as goal

pub returns : goal.returns
returns c = prefix_from_pairs
