use Rattle.board_api.proofs.Endings.{each_order_closes}
use Rattle.board_api.proofs.laws.each_lawful_order_may_close.Goals as goal

pub returns : goal.returns
returns c = each_order_closes
