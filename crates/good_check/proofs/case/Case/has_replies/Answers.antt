use Rattle.std.proofs.Common.{ℕ, ◌≡◌, ◌<◌, false, length, subst, sym, true}
use Rattle.std.proofs.lemmas.Result.{IfOk-weaker}
use Rattle.steer_model.specs.Good.GoodHistory.{never}
use Rattle.steer_model.specs.Good.Inputs.{setup_in}
use Rattle.steer_model.specs.Good.Replies.{LeaveInOrder, RepliesAreByRule}
use Rattle.steer_model.specs.State.Start.{initial_settings}
use Rattle.good_check.specs.Cases.{input_of}
use Rattle.good_check.specs.Replies.{HasReplied}
use Rattle.good_check.proofs.RepliesLemmas.{replies-from, replies-to}
use Rattle.good_check.proofs.case.Case.has_replies.Goals as goal

pub returns-then-not-branch-clause-no : goal.returns-then-not-branch-clause-no
returns-then-not-branch-clause-no c = λ r.
    let case = c.args.self.now in
    let plain = c.requires.plain in
    let flows = c.flow_classes.result in
    let t : c.in_ok-have_replied.field-0 ≡ true =
    c.in_ok-have_replied.ensures.no (λ a l.
    subst (λ s. HasReplied case.given.now s case.h.now flows a) (sym case.is_initial)
    (subst (λ p. HasReplied p (initial_settings case.plan.now) case.h.now flows a)
    (sym case.is_setup)
    (replies-from (input_of case) case.h.now plain.uncommanded plain.regular flows
    c.flow_classes.ensures.above r a))) in
    let f : c.in_ok-have_replied.field-0 ≡ false = c.if-not-branch.true in
    cc

pub returns-clause-yes : goal.returns-clause-yes
returns-clause-yes c =
    let case = c.args.self.now in
    let i = input_of case in
    let plain = c.requires.plain in
    let flows = c.flow_classes.result in
    let settings = initial_settings case.plan.now in
    let replied : (a : ℕ) → a < length case.plan.now.apps
    → HasReplied (setup_in i) settings case.h.now flows a = λ a l.
    subst (λ p. HasReplied p settings case.h.now flows a) case.is_setup
    (subst (λ s. HasReplied case.given.now s case.h.now flows a) case.is_initial
    (c.in_ok-have_replied.ensures.yes c.if-not-branch.false a l)) in
    IfOk-weaker c.leaves_in_order.result (λ r. r ≡ true → LeaveInOrder i case.h.now)
    (λ r. r ≡ true → RepliesAreByRule i case.h.now never)
    (λ r leave t. replies-to i case.h.now plain.uncommanded plain.regular flows
    c.flow_classes.ensures.above replied c.requires.swept (leave t))
    c.leaves_in_order.ensures.yes
