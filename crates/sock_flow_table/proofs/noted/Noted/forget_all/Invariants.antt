use Rattle.std.proofs.Common.{◌≡◌, take, replicate}
use Rattle.std.specs.Vec.{vec_len, vec_capacity}
use Rattle.sock_flow_table.specs.Generations.{never}
use Rattle.sock_flow_table.proofs.noted.Noted.forget_all.Given as goal

abbrev pub invariant-loop-place : goal.invariant-loop-place
invariant-loop-place l = record {
  items : take l.place l.entries.items ≡ replicate l.place never;
  len : vec_len l.entries ≡ vec_len l.initial.entries;
  capacity : vec_capacity l.entries ≡ vec_capacity l.initial.entries;
}
