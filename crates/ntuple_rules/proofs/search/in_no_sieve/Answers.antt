use Rattle.std.proofs.Common.{arith}
use Rattle.std.proofs.lemmas.Nat.Bits.{bit_at_ones}
use Rattle.ntuple_rules.proofs.search.in_no_sieve.Goals as goal

pub returns-then-place-lt-ALWAYS : goal.returns-then-place-lt-ALWAYS
returns-then-place-lt-ALWAYS c i first = bit_at_ones 16 i (omega (arith, first))
