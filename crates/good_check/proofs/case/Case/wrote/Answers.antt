use Rattle.std.proofs.Common.{◌≡◌, ◌∙◌, ◌-◌, [], ap, arith, drop, length, length-drop, sym}
use Rattle.std.proofs.lemmas.List.{drop_all}
use Rattle.good_check.specs.Writes.{writes_for}
use Rattle.good_check.proofs.case.Case.wrote.Goals as goal

pub returns-clause-no : goal.returns-clause-no
returns-clause-no c = λ e.
    let case = c.args.self.now in
    let writes = c.args.writes.now in
    let next = c.loop-id.next in
    let none : drop next writes ≡ [] =
    c.loop-id.invariant.on e
    ∙ ap (writes_for case.given.now case.settings.now.sock c.args.cpu)
    (drop_all c.loop-id.id-index c.args.inbox.now c.loop-id-test.false) in
    let short : length writes - next ≡ 0 = sym (length-drop next writes) ∙ ap length none in
    let same : next ≡ length writes = omega (arith, short, c.loop-id.invariant.within) in
    grind arith
