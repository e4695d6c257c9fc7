use Rattle.std.proofs.Common.{◌≡◌}
use Rattle.std.specs.Vec.{vec_len, vec_capacity}
use Rattle.accel_filter.specs.Table.{unset}
use Rattle.accel_filter.proofs.table.FilterTable.make.Given as goal

abbrev pub invariant-loop : goal.invariant-loop
invariant-loop l = record {
  len : vec_len l.filters ≡ l.counter;
  room : vec_capacity l.filters ≡ l.count;
  unset : l.filters.items ≡ unset l.counter;
}
