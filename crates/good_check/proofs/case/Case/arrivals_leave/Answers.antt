use Rattle.std.proofs.Common.{◌≡◌, ◌∙◌, ap, subst, sym, true}
use Rattle.std.proofs.lemmas.Result.{IfOk-weaker}
use Rattle.history.specs.Finding.{Once}
use Rattle.steer_model.specs.Good.Inputs.{setup_in}
use Rattle.good_check.specs.Cases.{input_of}
use Rattle.good_check.specs.Order.{LeftInOrder, arrival_classes, kept_arrivals}
use Rattle.good_check.proofs.OrderLemmas.{order-same, within-same}
use Rattle.good_check.proofs.SteeredLemmas.{came-arrived, came-once}
use Rattle.good_check.proofs.SteeredLemmas.{port-arrived}
use Rattle.good_check.proofs.SteeredLemmas.{within-classes}
use Rattle.good_check.proofs.case.Case.arrivals_leave.Goals as goal

pub leave_in_order-requires-clause-came : goal.leave_in_order-requires-clause-came
leave_in_order-requires-clause-came c =
    let case = c.args.self.now in
    let h = case.h.now in
    let i = input_of case in
    let r = c.requires.plain in
    let k = case.known.now in
    within-same c.deref.result.now (arrival_classes c.args.flows (setup_in i) h.arrivals)
    c.deref-2.result.now
    (kept_arrivals k h.arrivals)
    (c.deref.ensures.value ∙ c.in_ok-classes.ensures
    ∙ ap (λ p. arrival_classes c.args.flows p h.arrivals) case.is_setup)
    (c.deref-2.ensures.value ∙ c.in_ok-came.ensures)
    (within-classes i h r.flows r.regular k case.is_known c.args.flows
    c.requires.above (kept_arrivals k h.arrivals)
    (came-arrived i h r.flows r.regular k case.is_known c.args.flows
    c.requires.above))

pub leave_in_order-requires-clause-left : goal.leave_in_order-requires-clause-left
leave_in_order-requires-clause-left c =
    let case = c.args.self.now in
    let h = case.h.now in
    let i = input_of case in
    let r = c.requires.plain in
    let k = case.known.now in
    within-same c.deref.result.now (arrival_classes c.args.flows (setup_in i) h.arrivals)
    c.as_slice.result.now
    h.port
    (c.deref.ensures.value ∙ c.in_ok-classes.ensures
    ∙ ap (λ p. arrival_classes c.args.flows p h.arrivals) case.is_setup)
    c.as_slice.ensures
    (within-classes i h r.flows r.regular k case.is_known c.args.flows
    c.requires.above h.port
    (port-arrived i h r.flows r.regular k case.is_known c.args.flows
    c.requires.above))

pub leave_in_order-requires-clause-once : goal.leave_in_order-requires-clause-once
leave_in_order-requires-clause-once c =
    let case = c.args.self.now in
    let r = c.requires.plain in
    subst Once (sym (c.deref-2.ensures.value ∙ c.in_ok-came.ensures))
    (came-once (input_of case) case.h.now r.flows r.regular case.known.now case.is_known
    c.args.flows c.requires.above)

pub returns-clause-yes : goal.returns-clause-yes
returns-clause-yes c =
    let case = c.args.self.now in
    let h = case.h.now in
    let cs = arrival_classes c.args.flows case.given.now h.arrivals in
    let us = kept_arrivals case.known.now h.arrivals in
    IfOk-weaker c.leave_in_order.result
    (λ r. r ≡ true → LeftInOrder c.deref.result.now c.deref-2.result.now c.as_slice.result.now)
    (λ r. r ≡ true → LeftInOrder cs us h.port)
    (λ r o t. order-same c.deref.result.now cs c.deref-2.result.now us c.as_slice.result.now h.port
    (c.deref.ensures.value ∙ c.in_ok-classes.ensures)
    (c.deref-2.ensures.value ∙ c.in_ok-came.ensures) c.as_slice.ensures (o t))
    c.leave_in_order.ensures.yes

pub returns-clause-no : goal.returns-clause-no
returns-clause-no c =
    let case = c.args.self.now in
    let h = case.h.now in
    let cs = arrival_classes c.args.flows case.given.now h.arrivals in
    let us = kept_arrivals case.known.now h.arrivals in
    IfOk-weaker c.leave_in_order.result
    (λ r. LeftInOrder c.deref.result.now c.deref-2.result.now c.as_slice.result.now → r ≡ true)
    (λ r. LeftInOrder cs us h.port → r ≡ true)
    (λ r o l. o (order-same cs c.deref.result.now us c.deref-2.result.now h.port
    c.as_slice.result.now (sym (c.deref.ensures.value ∙ c.in_ok-classes.ensures))
    (sym (c.deref-2.ensures.value ∙ c.in_ok-came.ensures)) (sym c.as_slice.ensures) l))
    c.leave_in_order.ensures.no
