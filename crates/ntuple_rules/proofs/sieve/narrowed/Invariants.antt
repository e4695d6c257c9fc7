use Rattle.std.proofs.Common.{◌≡◌, ◌<◌, ℕ}
use Rattle.std.specs.Int.{bit_at}
use Rattle.ntuple_rules.specs.Sieves.{AllowsNumber}
use Rattle.ntuple_rules.proofs.sieve.narrowed.Given as goal

-- a candidate that all sets have is left
abbrev pub invariant-loop-digit : goal.invariant-loop-digit
invariant-loop-digit l =
    (place : ℕ) → place < 64 → bit_at l.candidates place ≡ 1
    → AllowsNumber l.sets l.row l.digits place l.number → bit_at l.left place ≡ 1
