use Rattle.std.proofs.Common.{◌≡◌, ◌≤◌, drop, length}
use Rattle.rule_check.specs.Chains.{AreChained}
use Rattle.rule_check.proofs.chains.Chains.make.Given as goal

abbrev pub invariant-loop-left : goal.invariant-loop-left
invariant-loop-left l = record {
  within : l.left ≤ length l.came;
  chained : AreChained l.classes l.chains (drop l.left l.came);
  first : length l.chains.first.items ≡ l.count;
  next : length l.chains.next.items ≡ length l.classes;
}

abbrev pub decreases-loop-left : goal.decreases-loop-left
decreases-loop-left l = l.left
