use Rattle.hop_board.specs.Made.{lines_of}
use Rattle.hop_board.proofs.Names.{◌≡◌, ◌++◌}
use Rattle.hop_board.proofs.making.push_lines.Given as goal

abbrev pub invariant-loop : goal.invariant-loop
invariant-loop l = l.words.items ≡ l.initial.words.items ++ lines_of l.value l.counter
