use Rattle.std.proofs.Common.{arith}
use Rattle.report_history.specs.Shown.{queue_choice}
use Rattle.report_history.proofs.ChoicesLemmas.{choices-are, nothing-left}
use Rattle.report_history.proofs.choices.choices.Goals as goal

pub returns : goal.returns
returns c = λ lists are.
    choices-are c.args.seen.now c.args.arrivals.now c.args.queues c.loop-arrival.lists.items lists
    c.loop-arrival.invariant.long
    (λ q l. nothing-left (queue_choice c.args.seen.now q) c.args.arrivals.now
    c.loop-arrival.arrival-index _ (omega (
      arith,
      c.loop-arrival-test.false,
      c.loop-arrival.auto.arrival-index-end,
    )) (c.loop-arrival.invariant.each q l))
    are
