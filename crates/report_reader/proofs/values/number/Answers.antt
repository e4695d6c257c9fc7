use Rattle.std.proofs.Common.{◌≡◌, Some, None, sym, ◌∙◌, arith}
use Rattle.report_reader.proofs.ValuesLemmas.{read-number}
use Rattle.report_reader.proofs.values.number.Goals as goal

pub returns-then-value-from : goal.returns-then-value-from
returns-then-value-from c = λ n h e.
    let r : c.decimal_number.result ≡ Some n = read-number n _ _ h e c.decimal_number.ensures.value
    in
    let s : Some c.in-Some.value ≡ Some n = sym c.in-Some.is ∙ r in cc

pub returns-else-value-from : goal.returns-else-value-from
returns-else-value-from c = λ n h e.
    let r : c.decimal_number.result ≡ Some n = read-number n _ _ h e c.decimal_number.ensures.value
    in
    let s : Some c.in-Some.value ≡ Some n = sym c.in-Some.is ∙ r in
    let v : c.in-Some.value ≡ n = cc in
    absurd (omega (arith, h, v, c.if-value-from.false, c.from.ensures))

pub returns-in-None : goal.returns-in-None
returns-in-None c = λ n h e.
    let r : c.decimal_number.result ≡ Some n = read-number n _ _ h e c.decimal_number.ensures.value
    in
    let s : None ≡ Some n = sym c.in-None.is ∙ r in absurd (cc)
