use Rattle.std.proofs.Common.{◌+◌, ◌*◌, ◌<◌, ◌≤◌}
use Rattle.std.specs.Slice.Scan.{HoldsNowhere}
use Rattle.accel_filter.specs.Marks.{marked}
use Rattle.accel_filter.proofs.marks.Marks.next.Given as goal

abbrev pub invariant-loop-place : goal.invariant-loop-place
invariant-loop-place l = record {
  bit : l.bit < 64;
  behind : l.from ≤ 64 * l.place + l.bit;
  free : HoldsNowhere (marked l.self) l.from (64 * l.place + l.bit);
}
