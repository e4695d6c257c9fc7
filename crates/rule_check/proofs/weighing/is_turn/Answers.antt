use Rattle.std.proofs.Common.{◌∙◌, ap}
use Rattle.dev_flow_table.specs.Tables.{recorded}
use Rattle.rule_check.proofs.RulesLemmas.{class-is, placed-nowhere, placed-there}
use Rattle.rule_check.proofs.weighing.is_turn.Goals as goal

pub returns-in_default-position-clause-table : goal.returns-in_default-position-clause-table
returns-in_default-position-clause-table c = λ t.
    let e = c.is_choice.ensures in
    let ok = c.if-not-is_choice.false in
    let q = c.args.asked in
    placed-nowhere c.args.table.now c.is_choice.new.table c.args.chosen q.class q.position
    c.in-Some.class c.in-Some.is c.in_default-position.is
    (class-is c.args.table.now c.args.chosen.choice q.class q.want q.desired c.args.online
    (e.yes ok))
    (e.table ok)

pub returns-clause-table : goal.returns-clause-table
returns-clause-table c = λ t.
    let e = c.is_choice.ensures in
    let ok = c.if-not-is_choice.false in
    let q = c.args.asked in
    placed-there c.args.table.now c.accepted.new.self c.args.chosen q.class q.position
    c.in-Some.class c.in-Some-position.position c.in-Some.is c.in-Some-position.is
    (class-is c.args.table.now c.args.chosen.choice q.class q.want q.desired c.args.online
    (e.yes ok))
    (c.accepted.ensures
    ∙ ap (λ s. recorded s c.in-Some.class c.in-Some-position.position) (e.table ok))
