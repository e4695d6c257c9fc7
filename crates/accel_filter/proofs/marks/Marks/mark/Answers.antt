use Rattle.std.proofs.Common.{arith}
use Rattle.accel_filter.proofs.MarksLemmas.{marked-mark}
use Rattle.accel_filter.proofs.marks.Marks.mark.Goals as goal

pub returns : goal.returns
returns c = marked-mark c.args.self.now c.args.n (omega arith)
