use Rattle.std.proofs.Common.{ap, reverse}
use Rattle.report.proofs.NumbersLemmas.{halves-digits}
use Rattle.report.proofs.numbers.halves_of.Goals as goal

pub returns : goal.returns
returns c = rw c.bytes_of-bytes.ensures (ap reverse (halves-digits 16 c.args.number))
