use Rattle.std.proofs.Common.{sym}
use Rattle.std.proofs.lemmas.Nat.Bits.{bit_at_ones}
use Rattle.ntuple_rules.proofs.sieve.Sieve.allowed.Goals as goal

pub returns : goal.returns
returns c place below allows =
    let is = sym c.as_slice-sets.ensures.value in
    let sport = sym c.from-sport.ensures in
    let dport = sym c.from-dport.ensures in
    c.narrowed.ensures place below
    (c.narrowed-left-3.ensures place below
    (c.narrowed-left-2.ensures place below
    (c.narrowed-left.ensures place below (bit_at_ones 64 place below)
    (rw (is, dport) at allows.dport)) (rw is at allows.src)) (rw is at allows.dst))
    (rw (is, sport) at allows.sport)
