use Rattle.hop_board.proofs.Names.{◌≡◌, ◌++◌, reverse, vec_len, spaced}
use Rattle.hop_board.proofs.making.spaced.Given as goal

abbrev pub invariant-loop-slot : goal.invariant-loop-slot
invariant-loop-slot l =
    spaced l.slots.items ++ reverse l.all.items ≡ spaced l.initial.slots.items

abbrev pub decreases-loop-slot : goal.decreases-loop-slot
decreases-loop-slot l = vec_len l.slots
