use Rattle.std.proofs.Common.{◌≡◌, ◌≤◌, length}
use Rattle.std.specs.List.{All}
use Rattle.table_tests.proofs.hop.the_largest_hop_is_made.Given as goal

abbrev pub invariant-loop : goal.invariant-loop
invariant-loop g l = record {
  many : length l.counts.items ≡ l.counter;
  fits : All (λ count. count ≤ 262144) l.counts.items;
}
