use Rattle.std.proofs.Common.{◌≡◌, take}
use Rattle.steer_core.proofs.actors.copies.choice_lists.Given as goal

abbrev pub invariant-loop-p : goal.invariant-loop-p
invariant-loop-p l = l.lists.items ≡ take l.p l.hop.choices
