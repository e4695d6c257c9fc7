use Rattle.std.proofs.Common.{[], arith, get_or, refl, subst}
use Rattle.report_reader.specs.Values.{IsNumber}
use Rattle.report_reader.proofs.NumbersLemmas.{number-at, number-past}
use Rattle.report_reader.proofs.fields.Fields.number.Goals as goal

pub returns-then-index-self : goal.returns-then-index-self
returns-then-index-self c =
    subst (λ all. IsNumber (get_or all c.args.index [])
    (get_or c.self.inside.fields c.args.index _).number) c.self.view_is
    (number-at (λ f. f.text.now) c.self.inside.fields c.self.inside.count c.args.index
    (λ f. f.number) _ refl c.if-index-self.true c.self.invariant.1)

pub returns-else-index-self : goal.returns-else-index-self
returns-else-index-self c =
    subst (λ all. IsNumber (get_or all c.args.index []) 0) c.self.view_is
    (number-past (λ f. f.text.now) c.self.inside.fields c.self.inside.count c.args.index
    (omega (arith, c.if-index-self.false)))
