use Rattle.std.proofs.Common.{◌≡◌, take}
use Rattle.steer_core.proofs.actors.copies.out_lists.Given as goal

abbrev pub invariant-loop-o : goal.invariant-loop-o
invariant-loop-o l = l.lists.items ≡ take l.o l.hop.bare.outs
