use Rattle.std.proofs.Common.{ℕ, ◌≡◌, ◌≤◌}
use Rattle.std.specs.Vec.{vec_len, vec_capacity}
use Rattle.dev_flow_table.specs.Written.{filled}
use Rattle.dev_flow_table.proofs.written.reach.Given as goal

abbrev pub invariant-loop : goal.invariant-loop
invariant-loop l = record {
  len : vec_len l.rows ≡ l.counter;
  room : vec_capacity l.rows ≡ vec_capacity l.fn.rows;
  within : (size : ℕ) → l.count ≤ size → vec_len l.fn.rows ≤ size → vec_len l.rows ≤ size;
  same : (size : ℕ) → l.count ≤ size → vec_len l.fn.rows ≤ size
      → filled l.rows.items size l.start ≡ filled l.fn.rows.items size l.start;
}
