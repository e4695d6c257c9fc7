use Rattle.std.proofs.Common.{◌≡◌, ℕ, bit_and}
use Rattle.ntuple_rules.specs.Sieves.{AllowsNumber, Keeps}
use Rattle.ntuple_rules.proofs.sieve.admit_number.Given as goal

-- the digits so far have the group, and no set has lost one
abbrev pub invariant-loop-digit : goal.invariant-loop-digit
invariant-loop-digit l = record {
  kept : Keeps l.initial.sets.items l.sets.items;
  admits : (n : ℕ) → bit_and n l.mask ≡ l.key → AllowsNumber l.sets.items l.row l.digit l.place n;
}
