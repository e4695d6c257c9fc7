use Rattle.std.proofs.Common.{◌∙◌, arith, refl, reverse, w8}
use Rattle.std.proofs.lemmas.Simd.{SwzOk-from_below}
use lib.Lanes.{digits_l}
use Rattle.report.proofs.NumbersLemmas.{looked_up, spelled}
use Rattle.report.proofs.numbers.hex32.Goals as goal

pub swizzle : goal.swizzle
swizzle c =
    let halves = reverse (digits_l 16 32 c.args.number) in
    rw c.halves_of-halves.ensures
    (SwzOk-from_below w8 16 2 32 0 halves refl (omega arith) (omega arith))

pub returns : goal.returns
returns c =
    let halves = reverse (digits_l 16 32 c.args.number) in
    rw c.halves_of-halves.ensures
    (looked_up halves refl (omega arith) ∙ spelled 32 c.args.number)
