use Rattle.std.proofs.Common.{◌≡◌, ◌++◌, List, ℕ, length, take}
use Rattle.rule_check.specs.Chains.{AreLeft}
use Rattle.rule_check.proofs.chains.Chains.leave.Given as goal

abbrev pub invariant-loop-id : goal.invariant-loop-id
invariant-loop-id l = record {
  left : (came gone : List ℕ) → AreLeft l.classes l.initial.self came gone
      → AreLeft l.classes l.self came (gone ++ take l.id-index l.leaving);
  first : length l.self.first.items ≡ length l.initial.self.first.items;
  next : length l.self.next.items ≡ length l.initial.self.next.items;
}
