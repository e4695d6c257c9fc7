use Rattle.std.proofs.Common.{◌≡◌, ◌%◌, ◌-◌, length, None}
use Rattle.ntuple_rules.specs.Sieves.{GoesOn}
use Rattle.ntuple_rules.proofs.classifier.Classifier.find.Given as goal

-- what was found, or less in the groups that are left, whose first is the first of a sieve
abbrev pub invariant-loop-place : goal.invariant-loop-place
invariant-loop-place l = record {
  first : l.place % 64 ≡ 0;
  found : GoesOn l.groups l.flow None 0 l.found l.place;
}

abbrev pub decreases-loop-place : goal.decreases-loop-place
decreases-loop-place l = length l.groups - l.place
