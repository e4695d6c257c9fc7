use Rattle.std.proofs.Common.{◌≡◌, ◌∙◌, subst, sym, true}
use Rattle.std.proofs.lemmas.Result.{IfOk-weaker}
use Rattle.steer_model.specs.Good.Replies.{LeaveInOrder}
use Rattle.good_check.specs.Cases.{input_of}
use Rattle.good_check.specs.Order.{LeftInOrder, all_replies, arrival_classes, kept_arrivals}
use Rattle.good_check.specs.Order.{reply_classes}
use Rattle.good_check.proofs.LeavingLemmas.{replies-from, replies-to}
use Rattle.good_check.proofs.SteeredLemmas.{order-from, order-to, port-arrived}
use Rattle.good_check.proofs.case.Case.leaves_in_order.Goals as goal

pub returns-then-not-branch-clause-no : goal.returns-then-not-branch-clause-no
returns-then-not-branch-clause-no c = λ o.
    let case = c.args.self.now in
    let h = case.h.now in
    let p = c.requires.plain in
    let t : c.in_ok-replies_leave.field-0 ≡ true =
    c.in_ok-replies_leave.ensures.no
    (subst (λ g. LeftInOrder (reply_classes g h.arrivals) (all_replies h.sent) h.port)
    (sym case.is_setup) (replies-from (input_of case) h p.flows p.regular o.order)) in
    sym c.if-not-branch.true ∙ t

pub returns-clause-yes : goal.returns-clause-yes
returns-clause-yes c =
    let case = c.args.self.now in
    let h = case.h.now in
    let i = input_of case in
    let p = c.requires.plain in
    let k = case.known.now in
    let came = kept_arrivals k h.arrivals in
    IfOk-weaker c.arrivals_leave.result
    (λ r. r ≡ true
    → LeftInOrder (arrival_classes c.flow_classes.result case.given.now h.arrivals) came h.port)
    (λ r. r ≡ true → LeaveInOrder i h)
    (λ r o t. record {
      order = replies-to i h p.flows p.regular
          (subst (λ g. LeftInOrder (reply_classes g h.arrivals) (all_replies h.sent) h.port)
          case.is_setup (c.in_ok-replies_leave.ensures.yes c.if-not-branch.false));
      end_to_end = order-to i h p.flows p.regular k case.is_known c.flow_classes.result
          c.flow_classes.ensures.above h.port
          (port-arrived i h p.flows p.regular k case.is_known c.flow_classes.result
          c.flow_classes.ensures.above)
          (subst (λ g. LeftInOrder (arrival_classes c.flow_classes.result g h.arrivals) came
          h.port) case.is_setup (o t));
    })
    c.arrivals_leave.ensures.yes

pub returns-clause-no : goal.returns-clause-no
returns-clause-no c =
    let case = c.args.self.now in
    let h = case.h.now in
    let i = input_of case in
    let p = c.requires.plain in
    let k = case.known.now in
    let came = kept_arrivals k h.arrivals in
    IfOk-weaker c.arrivals_leave.result
    (λ r. LeftInOrder (arrival_classes c.flow_classes.result case.given.now h.arrivals) came h.port
    → r ≡ true)
    (λ r. LeaveInOrder i h → r ≡ true)
    (λ r o l. o (subst (λ g. LeftInOrder (arrival_classes c.flow_classes.result g h.arrivals) came
    h.port)
    (sym case.is_setup)
    (order-from i h p.flows p.regular k case.is_known c.flow_classes.result
    c.flow_classes.ensures.above h.port
    (port-arrived i h p.flows p.regular k case.is_known c.flow_classes.result
    c.flow_classes.ensures.above) l.end_to_end)))
    c.arrivals_leave.ensures.no
