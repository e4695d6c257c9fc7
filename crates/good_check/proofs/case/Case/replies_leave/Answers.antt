use Rattle.std.proofs.Common.{◌≡◌, ◌∙◌, ap, subst, sym, true}
use Rattle.std.proofs.lemmas.Result.{IfOk-weaker}
use Rattle.history.specs.Finding.{Once}
use Rattle.steer_model.specs.Good.Inputs.{setup_in}
use Rattle.good_check.specs.Cases.{input_of}
use Rattle.good_check.specs.Order.{LeftInOrder, all_replies, reply_classes}
use Rattle.good_check.proofs.LeavingLemmas.{port-replied, replies-arrived, replies-once}
use Rattle.good_check.proofs.LeavingLemmas.{within-flows}
use Rattle.good_check.proofs.OrderLemmas.{order-same, within-same}
use Rattle.good_check.proofs.case.Case.replies_leave.Goals as goal

pub leave_in_order-requires-clause-came : goal.leave_in_order-requires-clause-came
leave_in_order-requires-clause-came c =
    let case = c.args.self.now in
    let h = case.h.now in
    let i = input_of case in
    let r = c.requires.plain in
    within-same c.deref.result.now (reply_classes (setup_in i) h.arrivals) c.deref-2.result.now
    (all_replies h.sent)
    (c.deref.ensures.value ∙ c.in_ok-classes.ensures
    ∙ ap (λ p. reply_classes p h.arrivals) case.is_setup)
    (c.deref-2.ensures.value ∙ c.in_ok-replies.ensures)
    (within-flows i h r.flows r.regular (all_replies h.sent)
    (replies-arrived i h r.flows r.regular))

pub leave_in_order-requires-clause-left : goal.leave_in_order-requires-clause-left
leave_in_order-requires-clause-left c =
    let case = c.args.self.now in
    let h = case.h.now in
    let i = input_of case in
    let r = c.requires.plain in
    within-same c.deref.result.now (reply_classes (setup_in i) h.arrivals) c.as_slice.result.now
    h.port
    (c.deref.ensures.value ∙ c.in_ok-classes.ensures
    ∙ ap (λ p. reply_classes p h.arrivals) case.is_setup)
    c.as_slice.ensures
    (within-flows i h r.flows r.regular h.port (port-replied i h r.flows r.regular))

pub leave_in_order-requires-clause-once : goal.leave_in_order-requires-clause-once
leave_in_order-requires-clause-once c =
    let case = c.args.self.now in
    let r = c.requires.plain in
    subst Once (sym (c.deref-2.ensures.value ∙ c.in_ok-replies.ensures))
    (replies-once (input_of case) case.h.now r.flows r.regular)

pub returns-clause-yes : goal.returns-clause-yes
returns-clause-yes c =
    let case = c.args.self.now in
    let h = case.h.now in
    let cs = reply_classes case.given.now h.arrivals in
    let us = all_replies h.sent in
    IfOk-weaker c.leave_in_order.result
    (λ r. r ≡ true → LeftInOrder c.deref.result.now c.deref-2.result.now c.as_slice.result.now)
    (λ r. r ≡ true → LeftInOrder cs us h.port)
    (λ r o t. order-same c.deref.result.now cs c.deref-2.result.now us c.as_slice.result.now h.port
    (c.deref.ensures.value ∙ c.in_ok-classes.ensures)
    (c.deref-2.ensures.value ∙ c.in_ok-replies.ensures) c.as_slice.ensures (o t))
    c.leave_in_order.ensures.yes

pub returns-clause-no : goal.returns-clause-no
returns-clause-no c =
    let case = c.args.self.now in
    let h = case.h.now in
    let cs = reply_classes case.given.now h.arrivals in
    let us = all_replies h.sent in
    IfOk-weaker c.leave_in_order.result
    (λ r. LeftInOrder c.deref.result.now c.deref-2.result.now c.as_slice.result.now → r ≡ true)
    (λ r. LeftInOrder cs us h.port → r ≡ true)
    (λ r o l. o (order-same cs c.deref.result.now us c.deref-2.result.now h.port
    c.as_slice.result.now (sym (c.deref.ensures.value ∙ c.in_ok-classes.ensures))
    (sym (c.deref-2.ensures.value ∙ c.in_ok-replies.ensures)) (sym c.as_slice.ensures) l))
    c.leave_in_order.ensures.no
