use Rattle.std.proofs.Common.{◌≡◌, true, false, sym, ◌∙◌, arith, refl}
use Rattle.std.proofs.lemmas.Slice.Eq.{bytes_eq-Decides}
use Rattle.report_reader.proofs.MembersLemmas.{members-end, members-none, members-start}
use Rattle.report_reader.proofs.MembersLemmas.{members-step}
use Rattle.report_reader.proofs.sets.members.Goals as goal

pub returns-then-eq : goal.returns-then-eq
returns-then-eq c = λ ns low e x.
    members-none c.args.field.now ns low e
    ((bytes_eq-Decides c.args.field.now _).0 (sym c.eq.ensures ∙ c.if-eq.true) ∙ c.as_slice.ensures)
    x

pub loop-k-init : goal.loop-k-init
loop-k-init c = λ no' ns low e. members-start _ ns low e no'

pub loop-k-preserved : goal.loop-k-preserved
loop-k-preserved c = λ no' ns low e.
    members-step _ _ _ _ ns (c.loop-k.invariant no' ns low e) c.loop-k-test.true _ refl _ _
    c.step-at.ensures.comma c.step-at.ensures.first c.step-at.ensures.same c.step-at.ensures.digit

pub returns : goal.returns
returns c = λ ns low e x.
    members-end _ _ _ _ ns
    (c.loop-k.invariant (λ d.
    let test : c.eq.result ≡ true = c.eq.ensures
    ∙ (bytes_eq-Decides c.args.field.now _).1 (d ∙ sym c.as_slice.ensures) in
    let no' : c.eq.result ≡ false = c.if-eq.false in cc) ns low e)
    (omega (arith, c.loop-k-test.false)) _ c.with.ensures.members x
