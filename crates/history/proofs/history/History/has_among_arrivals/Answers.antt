use Rattle.std.proofs.Common.{◌+◌, sym, ◌∙◌, arith, ap, drop}
use Rattle.history.specs.Finding.{is_among}
use Rattle.history.specs.Lists.{arrivals_at}
use Rattle.history.proofs.FindingLemmas.{among-here, among-same_queue, among-other_queue}
use Rattle.history.proofs.history.History.has_among_arrivals.Goals as goal
use Rattle.history.proofs.history.History.has_among_arrivals.Goals.{then-eq+else-eq-2, else-eq}

pub returns-then-eq-2 : goal.returns-then-eq-2
returns-then-eq-2 c =
    sym (among-here c.args.id c.args.queue c.loop-arrival.arrival-index
    (c.loop-arrival.arrival-index + 1) c.as_slice-arrival-items.result.now
    c.args.self.now.arrivals c.arrival-item.result
    c.as_slice-arrival-items.ensures c.loop-arrival-test.true c.arrival-item.is
    (omega arith) c.loop-arrival.left c.if-left-eq0.false
    (sym c.eq.ensures ∙ c.if-eq.true) (sym c.eq-then-eq.ensures ∙ c.if-eq-2.true))
    ∙ c.loop-arrival.invariant

pub loop-arrival-preserved : goal.loop-arrival-preserved
loop-arrival-preserved c =
    elim c.if-eq.branch [
      | then-eq+else-eq-2 w ↦
          ap (λ n. is_among n c.args.id
          (arrivals_at (drop (c.loop-arrival.arrival-index + 1) c.args.self.now.arrivals)
          c.args.queue)) w.left-is
          ∙ among-same_queue c.args.id c.args.queue c.loop-arrival.arrival-index
          (c.loop-arrival.arrival-index + 1) c.as_slice-arrival-items.result.now
          c.args.self.now.arrivals c.arrival-item.result
          c.as_slice-arrival-items.ensures c.loop-arrival-test.true c.arrival-item.is
          (omega arith) c.loop-arrival.left c.if-left-eq0.false
          (sym c.eq.ensures ∙ w.if-eq.true) (sym w.eq-then-eq.ensures ∙ w.if-eq-2.false)
          ∙ c.loop-arrival.invariant
      | else-eq w ↦
          ap (λ n. is_among n c.args.id
          (arrivals_at (drop (c.loop-arrival.arrival-index + 1) c.args.self.now.arrivals)
          c.args.queue)) w.left-is
          ∙ among-other_queue c.args.id c.args.queue c.loop-arrival.arrival-index
          (c.loop-arrival.arrival-index + 1) c.as_slice-arrival-items.result.now
          c.args.self.now.arrivals c.arrival-item.result
          c.as_slice-arrival-items.ensures c.loop-arrival-test.true c.arrival-item.is
          (omega arith) c.loop-arrival.left
          (sym c.eq.ensures ∙ w.if-eq.false)
          ∙ c.loop-arrival.invariant
    ]
