use Rattle.hop_core.proofs.EndToEnd.{end_to_end}
use Rattle.hop_core.proofs.laws.order_holds_from_end_to_end.Goals as goal

pub returns : goal.returns
returns c = end_to_end
