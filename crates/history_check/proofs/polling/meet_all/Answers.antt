use Rattle.std.proofs.Common.{◌∙◌, ap, arith, get_or, length, sym}
use Rattle.history_check.proofs.polling.meet_all.Goals as goal

pub loop-arrival-preserved : goal.loop-arrival-preserved
loop-arrival-preserved c =
    let h = c.args.h.now in
    let i = c.loop-arrival.arrival-index in
    let a = c.arrival-item.result in
    let all = c.as_slice-arrival-items.ensures in
    record {
      count = omega (arith, c.meet.ensures.count, c.loop-arrival.invariant.count);
      met = c.meet.ensures.yes c.if-not-meet.false i (
        a,
        omega (arith, c.loop-arrival-test.true, ap length all),
        c.arrival-item.is ∙ ap (λ xs. get_or xs i a) all,
        sym (ap (λ b. b.queue) c.arrival.view_is),
        sym (ap (λ b. b.id) c.arrival.view_is),
      ) c.loop-arrival.invariant.met;
    }

pub returns-then-not-meet-clause-no : goal.returns-then-not-meet-clause-no
returns-then-not-meet-clause-no c = λ f.
    let h = c.args.h.now in
    let i = c.loop-arrival.arrival-index in
    let a = c.arrival-item.result in
    let all = c.as_slice-arrival-items.ensures in
    c.meet.ensures.no c.if-not-meet.true i (
      a,
      omega (arith, c.loop-arrival-test.true, ap length all),
      c.arrival-item.is ∙ ap (λ xs. get_or xs i a) all,
      sym (ap (λ b. b.queue) c.arrival.view_is),
      sym (ap (λ b. b.id) c.arrival.view_is),
    ) c.loop-arrival.invariant.met
