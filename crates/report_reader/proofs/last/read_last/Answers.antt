use Rattle.report_reader.proofs.LastLemmas.{cut-at, total-at}
use Rattle.report_reader.proofs.last.read_last.Goals as goal

pub returns : goal.returns
returns c = λ arrived total cut l. (
  c.word.ensures total l.total_fits (total-at _ _ arrived total cut l _
      c.read.ensures.fields),
  c.cut_of.ensures cut (cut-at _ _ arrived total cut l _ c.read.ensures.fields),
)
