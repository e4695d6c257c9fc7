use Rattle.hop_rule.specs.declared.step.Slot.TheVariants.{Out}
use Rattle.hop_board.specs.Made.{new_middles}
use Rattle.hop_board.proofs.Names.{◌≡◌, [], ◌++◌, Some, replicate, out_list}
use Rattle.hop_board.proofs.making.first_slots.Given as goal

abbrev pub invariant-loop : goal.invariant-loop
invariant-loop l =
    l.slots.items ≡ new_middles l.sizes ++ replicate l.counter
    (Some (Out (out_list [] l.sizes.room)))
