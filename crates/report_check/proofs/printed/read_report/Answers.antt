use Rattle.std.proofs.Common.{◌≡◌, ◌∙◌, IfSome, false, subst, sym, true}
use Rattle.report.specs.Report.{report}
use Rattle.report_check.proofs.ReadLemmas.{no-report}
use Rattle.report_check.specs.Reading.{IsOnlyReport}
use Rattle.report_check.proofs.printed.read_report.Goals as goal
use Rattle.report_history.specs.declared.printed.Printed.{Printed}

pub returns-else-branch-clause-none : goal.returns-else-branch-clause-none
returns-else-branch-clause-none c = λ e.
    let packets = c.args.packets.now in
    let apps = c.args.apps in
    let start = c.args.start in
    let bytes = c.args.bytes.now in
    let k = c.in-Some.printed.history in
    let texts = c.in-Some.printed.texts.items in
    no-report packets apps start bytes k texts
    (subst (λ o. IfSome o (λ (p : Printed).
    IsOnlyReport packets apps start p.history p.texts.items bytes)) c.in-Some.is
    c.in_ok-printed.ensures.only)
    (λ r.
    let is = c.in_ok-is_written.ensures.no
    (subst (λ shown. report packets apps k shown ≡ bytes) (sym c.deref.ensures.value) r.text) in
    let f : true ≡ false = sym is ∙ c.if-branch.false in cc)
