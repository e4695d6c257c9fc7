use Rattle.std.proofs.Common.{◌≡◌, ◌∙◌, arith, false, subst, sym, true}
use Rattle.report_check.specs.Reading.{IsCandidate}
use Rattle.report_check.proofs.ReadLemmas.{may-be-report, no-report, only-report}
use Rattle.report_check.proofs.printed.candidate.Goals as goal

pub returns-else-branch-clause-none : goal.returns-else-branch-clause-none
returns-else-branch-clause-none g c = λ e.
    let packets = c.args.packets.now in
    let apps = c.args.apps in
    let start = c.args.start in
    let bytes = c.args.bytes.now in
    let k = c.in_ok-printed.printed.history in
    let texts = c.in_ok-printed.printed.texts.items in
    no-report packets apps start bytes k texts
    (only-report packets apps start bytes k texts c.in_ok-parts.parts c.requires.apps
    (omega (arith, c.ranges.apps.fits)) c.requires.few (omega arith) c.in_ok-parts.ensures.parts
    c.in_ok-printed.ensures.only)
    (λ r.
    let is = c.in_ok-is_candidate.ensures.no
    (subst (λ shown. IsCandidate packets apps start k shown) (sym c.deref.ensures.value)
    (may-be-report packets apps start bytes k texts r)) in
    let f : true ≡ false = sym is ∙ c.if-branch.false in cc)
