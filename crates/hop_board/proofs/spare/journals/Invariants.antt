use Rattle.hop_board.proofs.Names.{◌≡◌, ◌≤◌, [], replicate, vec_capacity, journal}
use Rattle.hop_board.proofs.spare.journals.Given as goal

abbrev pub invariant-loop : goal.invariant-loop
invariant-loop g l = record {
  items : l.all.items ≡ replicate l.counter (journal [] l.room);
  room : l.count ≤ vec_capacity l.all;
}
