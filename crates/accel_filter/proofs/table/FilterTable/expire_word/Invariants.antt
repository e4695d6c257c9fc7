use Rattle.std.proofs.Common.{◌*◌}
use Rattle.accel_filter.proofs.WordLemmas.{IsWalked}
use Rattle.accel_filter.proofs.table.FilterTable.expire_word.Given as goal

abbrev pub invariant-loop-left : goal.invariant-loop-left
invariant-loop-left l = IsWalked l.heads l.flows (64 * l.place) l.initial.self l.left l.count l.self

abbrev pub decreases-loop-left : goal.decreases-loop-left
decreases-loop-left l = l.left
