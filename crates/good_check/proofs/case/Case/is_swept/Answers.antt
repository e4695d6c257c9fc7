use Rattle.std.proofs.Common.{◌≡◌, ◌∙◌, false, length, sym, true}
use Rattle.good_check.proofs.SweptLemmas.{ended-from, ended-to, lanes-from, lanes-to, swept-from}
use Rattle.good_check.proofs.SweptLemmas.{swept-to}
use Rattle.good_check.proofs.case.Case.is_swept.Goals as goal

pub returns-then-not-are_done-clause-no : goal.returns-then-not-are_done-clause-no
returns-then-not-are_done-clause-no c = λ s.
    let t : c.are_done.result ≡ true =
    c.are_done.ensures ∙ lanes-from c.args.self.now.h.now.lanes s.lanes in
    let f : c.are_done.result ≡ false = c.if-not-are_done.true in cc

pub returns-then-not-are_done-2-clause-no : goal.returns-then-not-are_done-2-clause-no
returns-then-not-are_done-2-clause-no c = λ s.
    let t : c.are_done-2.result ≡ true =
    c.are_done-2.ensures ∙ lanes-from c.args.self.now.h.now.tx_lanes s.tx_lanes in
    let f : c.are_done-2.result ≡ false = c.if-not-are_done-2.true in cc

pub returns-clause-yes : goal.returns-clause-yes
returns-clause-yes c = λ t.
    let case = c.args.self.now in
    let h = case.h.now in
    let r = c.requires.plain.regular in
    swept-to case.given.now.packets (length case.plan.now.apps) h r
    (ended-to h r.arrived.numbered (sym c.have_ended.ensures ∙ t))
    (lanes-to h.lanes (sym c.are_done.ensures ∙ c.if-not-are_done.false))
    (lanes-to h.tx_lanes (sym c.are_done-2.ensures ∙ c.if-not-are_done-2.false))

pub returns-clause-no : goal.returns-clause-no
returns-clause-no c = λ s.
    let case = c.args.self.now in
    let h = case.h.now in
    let r = c.requires.plain.regular in
    c.have_ended.ensures
    ∙ ended-from h r.arrived.numbered
    (swept-from case.given.now.packets (length case.plan.now.apps) h r s)
