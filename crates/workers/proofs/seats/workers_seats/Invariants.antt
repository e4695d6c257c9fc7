use Rattle.std.specs.Vec.{vec_len}
use Rattle.workers.proofs.Names.{◌≡◌, ◌+◌, ◌++◌, length, map}
use Rattle.workers.proofs.seats.workers_seats.Given as goal

abbrev pub invariant-loop : goal.invariant-loop
invariant-loop l = record {
  count : length l.all.items ≡ l.counter;
  rx_left : vec_len l.left.rx + l.counter ≡ vec_len l.fn.left.rx;
  tx_left : vec_len l.left.tx + l.counter ≡ vec_len l.fn.left.tx;
  hints_left : vec_len l.left.hints + l.counter ≡ vec_len l.fn.left.hints;
  rx : l.fn.left.rx.items ≡ map (λ s. s.rx) l.all.items ++ l.left.rx.items;
  tx : l.fn.left.tx.items ≡ map (λ s. s.tx) l.all.items ++ l.left.tx.items;
  hints : l.fn.left.hints.items ≡ map (λ s. s.hint) l.all.items ++ l.left.hints.items;
}
