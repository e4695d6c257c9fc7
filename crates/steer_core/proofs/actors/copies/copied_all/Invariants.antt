use Rattle.std.proofs.Common.{◌≡◌, take}
use Rattle.steer_core.proofs.actors.copies.copied_all.Given as goal

abbrev pub invariant-loop-i : goal.invariant-loop-i
invariant-loop-i g l = l.lists.items ≡ take l.i l.journals.lists
