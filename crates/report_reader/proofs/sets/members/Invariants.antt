use Rattle.report_reader.proofs.MembersLemmas.{KeepsDashless}
use Rattle.report_reader.proofs.sets.members.Given as goal

abbrev pub invariant-loop-k : goal.invariant-loop-k
invariant-loop-k l = KeepsDashless l.field l.k l.at.mask l.at.member
