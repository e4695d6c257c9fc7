use Rattle.std.proofs.Common.{◌≡◌, ◌+◌, ◌*◌, ◌<◌, ℕ, bit_and}
use Rattle.ntuple_rules.specs.Sieves.{IsIn, Keeps}
use Rattle.ntuple_rules.proofs.sieve.admit_digit.Given as goal

-- the values so far that agree have the group, and no set has lost one
abbrev pub invariant-loop-value : goal.invariant-loop-value
invariant-loop-value l = record {
  kept : Keeps l.initial.sets.items l.sets.items;
  admits : (v : ℕ) → v < l.value → bit_and v l.mask ≡ l.key
      → IsIn l.sets.items (16 * l.row + v) l.place;
}
