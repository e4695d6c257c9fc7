use Rattle.hop_core.proofs.KeptHeads.{kept_head_decides}
use Rattle.hop_core.proofs.laws.a_choice_is_decided_by_its_kept_head.Goals as goal

pub returns : goal.returns
returns c = kept_head_decides
