use Rattle.history.proofs.FoundAgain.Histories.{found_again}
use Rattle.history.proofs.laws.histories_are_found_again.Goals as goal

pub returns : goal.returns
returns c = found_again
