use Rattle.hop_board.proofs.Names.{◌≡◌, ◌++◌, None, replicate}
use Rattle.hop_board.proofs.making.push_empty.Given as goal

abbrev pub invariant-loop : goal.invariant-loop
invariant-loop l = l.slots.items ≡ l.initial.slots.items ++ replicate l.counter None
