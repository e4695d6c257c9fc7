use Rattle.std.proofs.Common.{◌∙◌, ap, drop, take}
use lib.Lanes.{chunk}
use Rattle.report.specs.Numbers.{hex8_of, hex_digits}
use Rattle.report.proofs.numbers.hex8.Goals as goal

pub returns : goal.returns
unfolding hex_digits
returns c =
    ap (λ d. chunk 0 8 (take 8 (drop 24 d))) c.hex32.ensures ∙ ap hex8_of c.from.ensures
