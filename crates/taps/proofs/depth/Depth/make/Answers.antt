use Rattle.taps.proofs.CpusLemmas.{new_depths}
use Rattle.taps.proofs.depth.Depth.make.Goals as goal

pub returns : goal.returns
returns c = λ lines. new_depths 256 lines
