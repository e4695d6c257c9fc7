use Rattle.history.proofs.LinesFit.{lines_fit}
use Rattle.history.proofs.laws.lines_fit.Goals as goal

pub returns : goal.returns
returns c = lines_fit
