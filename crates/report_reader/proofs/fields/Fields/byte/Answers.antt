use Rattle.std.proofs.Common.{◌≡◌, arith}
use Rattle.report_reader.proofs.fields.Fields.byte.Goals as goal

pub returns : goal.returns
returns c = λ n h e.
    let is : c.number.result ≡ n = c.number.ensures n (omega (arith, h)) e in
    omega (arith, is, h)
