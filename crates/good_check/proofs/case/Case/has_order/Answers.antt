use Rattle.std.proofs.Common.{◌≡◌, ◌∙◌, ap, subst, sym, true}
use Rattle.std.specs.List.{concat}
use Rattle.std.proofs.lemmas.Result.{IfOk-weaker}
use Rattle.history.specs.Finding.{Once}
use Rattle.steer_model.specs.Good.Deliveries.{IsDeliveredInOrder}
use Rattle.steer_model.specs.Good.Inputs.{setup_in}
use Rattle.good_check.specs.Cases.{input_of}
use Rattle.good_check.specs.Order.{LeftInOrder, arrival_classes, kept_arrivals}
use Rattle.good_check.proofs.OrderLemmas.{order-same, within-same}
use Rattle.good_check.proofs.SteeredLemmas.{came-arrived, came-once, inboxes-arrived, inboxes-from}
use Rattle.good_check.proofs.SteeredLemmas.{inboxes-to, order-from, order-to}
use Rattle.good_check.proofs.SteeredLemmas.{within-classes}
use Rattle.good_check.proofs.case.Case.has_order.Goals as goal

pub leave_in_order-requires-clause-came : goal.leave_in_order-requires-clause-came
leave_in_order-requires-clause-came c =
    let case = c.args.self.now in
    let h = case.h.now in
    let i = input_of case in
    let r = c.requires.plain in
    let k = case.known.now in
    within-same c.deref.result.now (arrival_classes c.flow_classes.result (setup_in i) h.arrivals)
    c.deref-2.result.now
    (kept_arrivals k h.arrivals)
    (c.deref.ensures.value ∙ c.in_ok-classes.ensures
    ∙ ap (λ p. arrival_classes c.flow_classes.result p h.arrivals) case.is_setup)
    (c.deref-2.ensures.value ∙ c.in_ok-came.ensures)
    (within-classes i h r.flows r.regular k case.is_known c.flow_classes.result
    c.flow_classes.ensures.above (kept_arrivals k h.arrivals)
    (came-arrived i h r.flows r.regular k case.is_known c.flow_classes.result
    c.flow_classes.ensures.above))

pub leave_in_order-requires-clause-left : goal.leave_in_order-requires-clause-left
leave_in_order-requires-clause-left c =
    let case = c.args.self.now in
    let h = case.h.now in
    let i = input_of case in
    let r = c.requires.plain in
    let k = case.known.now in
    within-same c.deref.result.now (arrival_classes c.flow_classes.result (setup_in i) h.arrivals)
    c.deref-3.result.now
    (concat h.inboxes)
    (c.deref.ensures.value ∙ c.in_ok-classes.ensures
    ∙ ap (λ p. arrival_classes c.flow_classes.result p h.arrivals) case.is_setup)
    (c.deref-3.ensures.value ∙ c.in_ok-delivered.ensures)
    (within-classes i h r.flows r.regular k case.is_known c.flow_classes.result
    c.flow_classes.ensures.above (concat h.inboxes)
    (inboxes-arrived i h r.flows r.regular k case.is_known c.flow_classes.result
    c.flow_classes.ensures.above))

pub leave_in_order-requires-clause-once : goal.leave_in_order-requires-clause-once
leave_in_order-requires-clause-once c =
    let case = c.args.self.now in
    let r = c.requires.plain in
    subst Once (sym (c.deref-2.ensures.value ∙ c.in_ok-came.ensures))
    (came-once (input_of case) case.h.now r.flows r.regular case.known.now case.is_known
    c.flow_classes.result c.flow_classes.ensures.above)

pub returns-clause-yes : goal.returns-clause-yes
returns-clause-yes c =
    let case = c.args.self.now in
    let h = case.h.now in
    let i = input_of case in
    let p = c.requires.plain in
    let k = case.known.now in
    let cs = arrival_classes c.flow_classes.result (setup_in i) h.arrivals in
    let us = kept_arrivals k h.arrivals in
    let vs = concat h.inboxes in
    IfOk-weaker c.leave_in_order.result
    (λ r. r ≡ true → LeftInOrder c.deref.result.now c.deref-2.result.now c.deref-3.result.now)
    (λ r. r ≡ true → IsDeliveredInOrder i h)
    (λ r o t. inboxes-to i h p.flows p.regular k case.is_known c.flow_classes.result
    c.flow_classes.ensures.above
    (order-to i h p.flows p.regular k case.is_known c.flow_classes.result
    c.flow_classes.ensures.above vs
    (inboxes-arrived i h p.flows p.regular k case.is_known c.flow_classes.result
    c.flow_classes.ensures.above)
    (order-same c.deref.result.now cs c.deref-2.result.now us c.deref-3.result.now vs
    (c.deref.ensures.value ∙ c.in_ok-classes.ensures
    ∙ ap (λ g. arrival_classes c.flow_classes.result g h.arrivals) case.is_setup)
    (c.deref-2.ensures.value ∙ c.in_ok-came.ensures)
    (c.deref-3.ensures.value ∙ c.in_ok-delivered.ensures) (o t))))
    c.leave_in_order.ensures.yes

pub returns-clause-no : goal.returns-clause-no
returns-clause-no c =
    let case = c.args.self.now in
    let h = case.h.now in
    let i = input_of case in
    let p = c.requires.plain in
    let k = case.known.now in
    let cs = arrival_classes c.flow_classes.result (setup_in i) h.arrivals in
    let us = kept_arrivals k h.arrivals in
    let vs = concat h.inboxes in
    IfOk-weaker c.leave_in_order.result
    (λ r. LeftInOrder c.deref.result.now c.deref-2.result.now c.deref-3.result.now → r ≡ true)
    (λ r. IsDeliveredInOrder i h → r ≡ true)
    (λ r o d. o (order-same cs c.deref.result.now us c.deref-2.result.now vs c.deref-3.result.now
    (sym (c.deref.ensures.value ∙ c.in_ok-classes.ensures
    ∙ ap (λ g. arrival_classes c.flow_classes.result g h.arrivals) case.is_setup))
    (sym (c.deref-2.ensures.value ∙ c.in_ok-came.ensures))
    (sym (c.deref-3.ensures.value ∙ c.in_ok-delivered.ensures))
    (order-from i h p.flows p.regular k case.is_known c.flow_classes.result
    c.flow_classes.ensures.above vs
    (inboxes-arrived i h p.flows p.regular k case.is_known c.flow_classes.result
    c.flow_classes.ensures.above)
    (inboxes-from i h p.flows p.regular k case.is_known c.flow_classes.result
    c.flow_classes.ensures.above d))))
    c.leave_in_order.ensures.no
