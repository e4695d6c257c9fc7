use Rattle.std.proofs.Common.{◌/◌, length, Some, ap, sym, ◌∙◌}
use Rattle.std.proofs.lemmas.Bool.{ltb-true}
use Rattle.std.proofs.lemmas.Nat.Bits.{bit_at_ones}
use Rattle.std.proofs.lemmas.Option.{slice_get-get_or}
use Rattle.ntuple_rules.proofs.Searched.{candidate, of_sieve}
use Rattle.ntuple_rules.proofs.search.candidates.Goals as goal

pub returns-in-Some : goal.returns-in-Some
returns-in-Some c i below allows =
    let index = c.args.place / 64 in
    let within = ltb-true index (length c.args.sieves.now) (sym c.in-Some.ensures.lookup.0) in
    let stands = slice_get-get_or c.args.sieves.now index c.in-Some.sieve.now within
    ∙ ap Some (sym c.in-Some.ensures.lookup.1) in
    candidate c.args.place i c.candidates.result c.in_no_sieve.result (c.in_no_sieve.ensures i)
    (λ later. c.candidates.ensures i below
    (of_sieve c.args.sieves.now c.args.place i c.in-Some.sieve.now c.args.flow c.requires below
    stands allows later))

pub returns-in-None : goal.returns-in-None
returns-in-None c i below allows = bit_at_ones 64 i below
