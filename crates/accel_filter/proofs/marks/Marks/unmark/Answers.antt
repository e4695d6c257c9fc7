use Rattle.std.proofs.Common.{arith}
use Rattle.accel_filter.proofs.MarksLemmas.{marked-unmark}
use Rattle.accel_filter.proofs.marks.Marks.unmark.Goals as goal

pub returns : goal.returns
returns c = marked-unmark c.args.self.now c.args.n (omega arith)
