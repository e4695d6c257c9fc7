use Rattle.std.proofs.Common.{take}
use Rattle.ntuple_rules.specs.Groups.{Finds, InOrder}
use Rattle.ntuple_rules.specs.Sieves.{Sifts}
use Rattle.ntuple_rules.proofs.classifier.Classifier.make.Given as goal

-- the groups find the first match of the rules so far, stand in the order of their first rules, and
-- are let through
abbrev pub invariant-loop-number : goal.invariant-loop-number
invariant-loop-number l = record {
  finds : Finds l.groups.items (take l.number l.rules.rules);
  order : InOrder 0 l.groups.items l.number;
  sifts : Sifts l.groups.items l.sieves.items;
}
