use Rattle.std.proofs.Common.{◌≡◌, replicate}
use Rattle.std.specs.Vec.{vec_len, vec_capacity}
use Rattle.sock_flow_table.specs.Generations.{never}
use Rattle.sock_flow_table.proofs.table.SockTable.make.Given as goal

abbrev pub invariant-loop : goal.invariant-loop
invariant-loop l = record {
  count : vec_len l.all ≡ l.counter;
  room : vec_capacity l.all ≡ 65536;
  items : l.all.items ≡ replicate l.counter never;
}
