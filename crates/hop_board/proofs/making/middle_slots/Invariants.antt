use Rattle.std.specs.List.{range_with_len}
use Rattle.hop_board.proofs.Names.{◌≡◌, map, new_middle}
use Rattle.hop_board.proofs.making.middle_slots.Given as goal

abbrev pub invariant-loop-lane : goal.invariant-loop-lane
invariant-loop-lane l = l.slots.items ≡ map (new_middle l.sizes) (range_with_len 0 l.lane)
