use Rattle.std.proofs.Common.{◌≡◌, ◌+◌, ◌<◌, ◌≤◌, ℕ, true, is_some}
use Rattle.std.specs.Int.{bit_at}
use Rattle.ntuple_rules.specs.Groups.{found_at}
use Rattle.ntuple_rules.specs.Sieves.{GoesOn}
use Rattle.ntuple_rules.proofs.search.find_among.Given as goal

-- what was found, or less in the groups that are left; those of them that find the flow are left,
-- and none past the 64
abbrev pub invariant-loop-left : goal.invariant-loop-left
invariant-loop-left l = record {
  found : GoesOn l.groups l.flow l.initial.found l.place l.found l.at;
  within : l.at ≤ l.place + 64;
  sound : (i : ℕ) → l.at + i < l.place + 64 → is_some (found_at l.groups (l.at + i) l.flow) ≡ true
      → bit_at l.left i ≡ 1;
  past : (i : ℕ) → l.place + 64 ≤ l.at + i → bit_at l.left i ≡ 0;
}

abbrev pub decreases-loop-left : goal.decreases-loop-left
decreases-loop-left l = l.left
