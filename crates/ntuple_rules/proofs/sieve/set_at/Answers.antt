use Rattle.std.proofs.lemmas.Nat.Bits.{bit_at_ones}
use Rattle.ntuple_rules.proofs.sieve.set_at.Goals as goal

pub returns-in-None : goal.returns-in-None
returns-in-None c place below is = bit_at_ones 64 place below
