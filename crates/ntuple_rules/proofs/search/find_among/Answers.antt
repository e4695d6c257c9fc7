use Rattle.std.proofs.Common.{◌+◌, refl, arith, w64}
use Rattle.std.proofs.lemmas.Nat.Bits.{bit_at-trailing_zeros, bit_at_above}
use Rattle.ntuple_rules.proofs.Searched.{below_end, goes_on, goes_past, goes_to_end, past_next}
use Rattle.ntuple_rules.proofs.Searched.{sound_next}
use Rattle.ntuple_rules.proofs.search.find_among.Goals as goal

pub loop-left-init : goal.loop-left-init
loop-left-init c = record {
  found = refl;
  within = omega arith;
  sound = λ i below found. c.requires.sound i (omega (arith, below)) found;
  past = λ i beyond. bit_at_above c.args.candidates 64 i
      (omega (arith, c.ranges.candidates.fits)) (omega (arith, beyond));
}

pub loop-left-preserved : goal.loop-left-preserved
loop-left-preserved c =
    let groups = c.args.groups.now in
    let at = c.loop-left.at in
    let left = c.loop-left.left in
    let end = c.args.place + 64 in
    let lowest = bit_at-trailing_zeros w64 left (omega (arith, c.loop-left-test.true))
    (omega (arith, c.loop-left.auto.left-fits)) in
    let within = below_end at _ end left c.loop-left.invariant.past lowest.1 in
    record {
      found = rw c.find_at-found.ensures
          (goes_on groups c.args.flow c.args.place at _ end left c.args.found c.loop-left.found
          c.loop-left.invariant.found c.loop-left.invariant.sound within lowest.2);
      within = omega (arith, within);
      sound = sound_next groups c.args.flow at _ end left c.loop-left.invariant.sound;
      past = past_next at _ end left c.loop-left.invariant.past;
    }

pub returns : goal.returns
returns c =
    goes_to_end c.args.groups.now c.args.flow c.args.place c.loop-left.at (c.args.place + 64)
    c.loop-left.left c.args.found c.loop-left.found (omega (arith, c.loop-left-test.false))
    c.loop-left.invariant.found c.loop-left.invariant.sound c.loop-left.invariant.within

pub returns-then-at-groups : goal.returns-then-at-groups
returns-then-at-groups c =
    goes_past c.args.groups.now c.args.flow c.args.place c.loop-left.at (c.args.place + 64)
    c.args.found c.loop-left.found c.loop-left.invariant.found c.if-at-groups.true
    c.loop-left.invariant.within
