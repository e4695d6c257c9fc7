use Rattle.std.proofs.Common.{◌-◌, ◌++◌, ◌∙◌, ap, drop, take}
use Rattle.report.proofs.NumbersLemmas.{last_digits}
use Rattle.report.proofs.line.LineBuf.push_hex.Goals as goal

pub returns-clause-value : goal.returns-clause-value
returns-clause-value c =
    let text = c.args.self.now in
    let digits = c.args.digits in
    c.push.ensures
    ∙ ap (λ d. text ++ take (32 - (32 - digits)) (drop (32 - digits) d)) c.hex32.ensures
    ∙ ap (λ d. text ++ d) (last_digits digits c.args.number c.requires.few)
