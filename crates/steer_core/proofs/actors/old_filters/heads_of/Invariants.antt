use Rattle.std.proofs.Common.{◌≡◌, length}
use Rattle.steer_core.specs.OldFilters.{AreHeadsBelow}
use Rattle.steer_core.proofs.actors.old_filters.heads_of.Given as goal

abbrev pub invariant-loop-cpu : goal.invariant-loop-cpu
invariant-loop-cpu l = record {
  long : length l.heads ≡ 32;
  heads : AreHeadsBelow l.rx l.cpu l.heads;
}
