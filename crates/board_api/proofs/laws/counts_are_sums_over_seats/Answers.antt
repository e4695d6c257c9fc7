use Rattle.board_api.specs.Laws.Puts.{CountsAreSums}
use Rattle.board_api.proofs.Endings.{at_closings}
use Rattle.board_api.proofs.OwnDrops.{counts_are_sums}
use Rattle.board_api.proofs.laws.counts_are_sums_over_seats.Goals as goal

pub returns : goal.returns
returns c = at_closings CountsAreSums (λ about order fit lawful. counts_are_sums about order lawful)
