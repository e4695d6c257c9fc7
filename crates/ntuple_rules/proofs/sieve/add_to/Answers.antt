use Rattle.std.proofs.Common.{ap, ◌∙◌, arith}
use Rattle.std.specs.Int.{bit_at}
use Rattle.std.proofs.lemmas.Nat.{one_shl}
use Rattle.std.proofs.lemmas.Nat.Bits.{bit_at-pow_same}
use Rattle.ntuple_rules.proofs.Sieved.{is_in_past, or_is_in, or_keeps}
use Rattle.ntuple_rules.proofs.sieve.add_to.Goals as goal

pub returns-then-index-len-clause-kept : goal.returns-then-index-len-clause-kept
returns-then-index-len-clause-kept c =
    or_keeps c.args.sets.now.items c.args.index c.index_mut.result.now _
    (omega (arith, c.if-index-len.true, c.len.ensures)) c.index_mut.ensures.value

pub returns-then-index-len-clause-is_in : goal.returns-then-index-len-clause-is_in
returns-then-index-len-clause-is_in c =
    or_is_in c.args.sets.now.items c.args.index c.index_mut.result.now _
    (omega (arith, c.if-index-len.true, c.len.ensures)) c.index_mut.ensures.value c.args.place
    (ap (λ n. bit_at n c.args.place) (one_shl c.args.place 64 c.requires)
    ∙ bit_at-pow_same c.args.place)

pub returns-else-index-len-clause-is_in : goal.returns-else-index-len-clause-is_in
returns-else-index-len-clause-is_in c =
    is_in_past c.args.sets.now.items c.args.index c.args.place
    (omega (arith, c.if-index-len.false, c.len.ensures))
