use Rattle.hop_rule.proofs.Boards.{parts}
use Rattle.hop_rule.proofs.laws.parts_of_an_order_are_lawful.Goals as goal

pub returns : goal.returns
returns c = parts
