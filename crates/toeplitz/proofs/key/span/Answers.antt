use Rattle.std.proofs.Common.{◌≡◌, ◌+◌, ◌-◌, arith}
use Rattle.std.proofs.lemmas.List.Elements.{All-from_get_or}
use Rattle.toeplitz.proofs.Numbers.{IsByte, AreBytes, number_of_part}
use Rattle.toeplitz.proofs.key.span.Goals as goal

pub returns : goal.returns
returns c =
    let key = c.args.key.now in
    let place = c.args.place in
    let bytes : AreBytes key = All-from_get_or IsByte key 0
    (λ i h. omega (arith, c.type_inv.key i)) in
    let five : (place + 5) - place ≡ 5 = omega arith in
    rw (c.number.ensures, five) (number_of_part key place bytes c.requires.whole c.requires.within)
