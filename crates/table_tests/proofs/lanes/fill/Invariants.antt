use Rattle.std.proofs.Common.{◌≡◌, ◌+◌}
use Rattle.backlog.specs.Puts.{SameShape, put_count}
use Rattle.table_tests.proofs.lanes.fill.Given as goal

abbrev pub invariant-loop-at : goal.invariant-loop-at
invariant-loop-at g l = record {
  puts : put_count l.lane ≡ put_count l.initial.lane + l.at;
  shape : SameShape l.initial.lane l.lane;
}
