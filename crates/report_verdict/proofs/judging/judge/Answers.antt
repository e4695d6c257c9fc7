use Rattle.std.proofs.Common.{rules, ◌≡◌, ◌∙◌, [], arith, length, subst, sym}
use Rattle.std.proofs.lemmas.Bool.Decides.{nat_tests}
use Rattle.std.proofs.lemmas.List.{nil_from_length}
use Rattle.good_check.specs.Cases.{input}
use Rattle.plan_reader.specs.Ranges.{commands_of}
use Rattle.report_verdict.specs.Verdicts.{IsVerdict}
use Rattle.report_verdict.proofs.JudgingLemmas.{is_verdict, to-judge}
use Rattle.report_verdict.proofs.judging.judge.Goals as goal

pub compared_and_judged-requires-clause-candidate :
    goal.compared_and_judged-requires-clause-candidate
compared_and_judged-requires-clause-candidate g c =
    let zero : length c.commands.result.now ≡ 0 =
    grind (arith, nat_tests, c.if-not-is_empty.ensures) in
    let none : commands_of c.args.plan.now.steps ≡ [] =
    sym c.commands.ensures ∙ nil_from_length c.commands.result.now zero in
    let apps : c.len-apps.result ≡ length c.args.plan.now.apps = search rules in
    to-judge (input c.args.plan.now c.args.packets.now c.args.cut) c.args.bytes.now
    c.len-apps.result c.in_ok-printed.field-0 c.in-Some.printed c.in-Some.is apps none
    c.in_ok-printed.ensures.found c.in_ok-printed.ensures.only

pub returns : goal.returns
returns g c =
    let i = input c.args.plan.now c.args.packets.now c.args.cut in
    let zero : length c.commands.result.now ≡ 0 =
    grind (arith, nat_tests, c.if-not-is_empty.ensures) in
    let none : commands_of c.args.plan.now.steps ≡ [] =
    sym c.commands.ensures ∙ nil_from_length c.commands.result.now zero in
    let apps : c.len-apps.result ≡ length c.args.plan.now.apps = search rules in
    subst (IsVerdict i c.args.bytes.now) (sym c.verdict_of.ensures)
    (is_verdict i c.args.bytes.now c.in-Some.printed.history c.in-Some.printed.texts.items
    (to-judge i c.args.bytes.now c.len-apps.result c.in_ok-printed.field-0 c.in-Some.printed
    c.in-Some.is apps none c.in_ok-printed.ensures.found c.in_ok-printed.ensures.only)
    c.in_ok-written.written c.in_ok-written.fault c.in_ok-written.ensures)
