use Rattle.workers.proofs.BoardLaws.{plans_fit_boards}
use Rattle.workers.proofs.board_laws.plans_fit_their_boards.Goals as goal

pub returns : goal.returns
returns c = plans_fit_boards c.first_values_stand.ensures
