use Rattle.std.proofs.Common.{◌∙◌, arith, sym}
use Rattle.report_history.specs.Lists.{IsTxQueue}
use Rattle.report_history.proofs.LoopsLemmas.{lane-same, one-lane}
use Rattle.report_history.proofs.lanes.tx_queues.Goals as goal

pub loop-t-init : goal.loop-t-init
loop-t-init c = record {
  long = c.in_ok-accepted.ensures.lists;
  rest = λ n wanted a b s. c.in_ok-accepted.ensures.each n wanted b s;
  built = λ all s. c.in_ok-lanes.ensures.items;
}

pub loop-t-preserved : goal.loop-t-preserved
loop-t-preserved c =
    let at = c.loop-t.t in
    let rest = c.loop-t.invariant.rest in
    record {
      long = c.take_list-own.ensures.long ∙ c.loop-t.invariant.long;
      rest = λ n wanted a b s.
          c.take_list-own.ensures.others n (omega (arith, a)) ∙ rest n wanted (omega
          (arith, a)) b s;
      built = λ all s.
          one-lane (IsTxQueue c.args.start c.args.seen.now) c.args.sums.now all s at _
          c.loop-t.lanes.items _ c.lane_of.result c.loop-t-test.true
          (c.loop-t.invariant.built all s)
          c.in_ok-push.ensures.items (λ lane b.
          lane-same c.lane_of.result lane _
          (c.lane_of.ensures.accepted ∙ c.take_list-own.ensures.taken
          ∙ rest at lane.accepted (omega arith) c.loop-t-test.true b.of_accepted)
          (c.lane_of.ensures.drops ∙ c.new.ensures.items ∙ sym b.of_drops)
          c.lane_of.ensures.pulled c.lane_of.ensures.delivered c.lane_of.ensures.retired b.of_sums);
    }
