use Rattle.accel_filter.proofs.MarksLemmas.{marked-none}
use Rattle.accel_filter.proofs.marks.Marks.none.Goals as goal

pub returns : goal.returns
returns c = marked-none
