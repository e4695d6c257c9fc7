use Rattle.std.proofs.Common.{◌*◌, ◌≤◌}
use Rattle.std.specs.List.{All}
use Rattle.accel_filter.specs.Expiry.{IsExpiredTo, IsSeated}
use Rattle.accel_filter.proofs.table.FilterTable.expire_all.Given as goal

abbrev pub invariant-loop-place : goal.invariant-loop-place
invariant-loop-place l = record {
  few : l.count ≤ 64 * l.place;
  walked : IsExpiredTo l.heads l.flows l.initial.self (64 * l.place) l.count l.self;
  seated : All (IsSeated l.heads l.flows) l.self;
}
