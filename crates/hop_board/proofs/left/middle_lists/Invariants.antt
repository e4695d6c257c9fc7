use Rattle.hop_board.specs.Left.{middles_left}
use Rattle.hop_board.proofs.Names.{◌≡◌, ◌-◌, ◌*◌, ◌≤◌, vec_capacity, slots_filled, slots_items}
use Rattle.hop_board.proofs.Names.{slots_len, AreSpare, AreTakenTo, SLOTS_PER_LANE}
use Rattle.hop_board.proofs.left.middle_lists.Given as goal

abbrev pub invariant-loop-lane : goal.invariant-loop-lane
invariant-loop-lane l = record {
  lists : l.lists.items ≡ middles_left l.sizes l.lane (slots_items l.initial.closed.slots);
  room : l.sizes.lanes ≤ vec_capacity l.lists;
  same : slots_items l.closed.slots ≡ slots_items l.initial.closed.slots;
  count : slots_len l.closed.slots ≡ slots_len l.initial.closed.slots;
  taken : AreTakenTo (SLOTS_PER_LANE * l.lane) (slots_len l.closed.slots)
      (slots_filled l.closed.slots);
  accepted : AreSpare (l.sizes.lanes - l.lane) l.sizes.room l.accepted.items;
  drops : AreSpare (l.sizes.lanes - l.lane) l.sizes.room l.drops.items;
}
