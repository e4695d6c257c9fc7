use Rattle.board_api.specs.Laws.Lanes.{OutsAreSums}
use Rattle.board_api.proofs.Endings.{at_closings}
use Rattle.board_api.proofs.OutSums.{outs_are_sums}
use Rattle.board_api.proofs.laws.outs_are_sums_over_seats.Goals as goal

pub returns : goal.returns
returns c = at_closings OutsAreSums (λ about order fit lawful. outs_are_sums about order lawful)
