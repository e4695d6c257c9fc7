use Rattle.hop_board.proofs.Names.{◌≡◌, ◌+◌, slots_filled, slots_items, slots_len, AreFullFrom}
use Rattle.hop_board.proofs.Names.{AreTakenFrom}
use Rattle.hop_board.proofs.left.take_lane.Given as goal

abbrev pub invariant-loop-n : goal.invariant-loop-n
invariant-loop-n l = record {
  same : slots_items l.closed.slots ≡ slots_items l.initial.closed.slots;
  count : slots_len l.closed.slots ≡ slots_len l.initial.closed.slots;
  left : AreFullFrom (l.first + l.n) (slots_len l.closed.slots) (slots_filled l.closed.slots);
  taken : AreTakenFrom l.first l.n (slots_filled l.initial.closed.slots)
      (slots_filled l.closed.slots);
}
