use Rattle.hop_board.specs.Left.{outs_left}
use Rattle.hop_board.proofs.Names.{◌≡◌, ◌+◌, ◌*◌, ◌≤◌, vec_capacity, slots_filled, slots_items}
use Rattle.hop_board.proofs.Names.{slots_len, AreFullFrom, AreTakenFrom, SLOTS_PER_LANE}
use Rattle.hop_board.proofs.left.out_lists.Given as goal

abbrev pub invariant-loop-out : goal.invariant-loop-out
invariant-loop-out l = record {
  lists : l.lists.items ≡ outs_left l.sizes l.out (slots_items l.initial.closed.slots);
  room : l.sizes.outs ≤ vec_capacity l.lists;
  same : slots_items l.closed.slots ≡ slots_items l.initial.closed.slots;
  count : slots_len l.closed.slots ≡ slots_len l.initial.closed.slots;
  left : AreFullFrom (SLOTS_PER_LANE * (l.sizes.lanes + l.out)) (slots_len l.closed.slots)
      (slots_filled l.closed.slots);
  taken : AreTakenFrom (SLOTS_PER_LANE * l.sizes.lanes) (SLOTS_PER_LANE * l.out)
      (slots_filled l.initial.closed.slots) (slots_filled l.closed.slots);
}
