use Rattle.std.proofs.Common.{sym, ◌∙◌}
use Rattle.hop_core.proofs.TableSteps.{LanesBelow-tables, choice-by_table}
use Rattle.hop_core.proofs.Wholes.{fits-weigh, read-visit, weigh_finds, whole-weigh}
use Rattle.hop_core.proofs.hop.Hop.weigh.Goals as goal

pub choose-choice-requires-clause-lanes : goal.choose-choice-requires-clause-lanes
choose-choice-requires-clause-lanes c =
    rw c.deref.ensures.value
    (LanesBelow-tables _ c.args.p c.self.inside.tables c.self.invariant.sound
    c.self.invariant.tabled)

pub push-requires-clause-room : goal.push-requires-clause-room
push-requires-clause-room c =
    let found = weigh_finds _ c.args.p c.in-Some.id c.self.invariant
    (rw (← c.self.view_is) at c.in-Some.ensures) in
    fits-weigh _ c.args.p found.0 c.self.invariant

pub invariant_of-self : goal.invariant_of-self
invariant_of-self c =
    let w = c.self.invariant in
    let asked = rw (← c.self.view_is) at c.requires in
    let found = weigh_finds _ c.args.p c.in-Some.id c.self.invariant
    (rw (← c.self.view_is) at c.in-Some.ensures) in
    let inside = sym (read-visit _ c.args.p c.index.result.now w asked.producer c.index.ensures)
    ∙ c.if-not-index.false in
    let choice = (rw c.deref.ensures.value at c.choose-choice.ensures.choice)
    ∙ choice-by_table _ c.args.p c.self.inside.tables w.tabled c.args.class c.args.want
    c.args.desired c.args.online asked.in_range in
    let tables = rw choice at c.choose-choice.ensures.tables in
    let lists = rw (found.1, choice) at c.push.ensures in
    rw (tables, lists)
    (whole-weigh _ c.args.p c.args.class c.args.want c.args.desired c.args.online asked.producer
    asked.lane asked.in_range asked.drained inside found.0 w)
