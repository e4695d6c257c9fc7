use Rattle.std.proofs.Common.{◌<◌, ◌∙◌, [], ap, arith, length}
use Rattle.std.specs.List.{filter_map}
use Rattle.std.proofs.lemmas.List.{get_or_default}
use Rattle.history.specs.Lists.{drop_ids}
use Rattle.report_history.specs.Lists.{IsBacklog}
use Rattle.report_history.specs.Shown.{shown_drop}
use Rattle.report_history.proofs.LoopsLemmas.{lane-same, one-lane}
use Rattle.report_history.proofs.lanes.backlogs.Goals as goal

pub loop-c-init : goal.loop-c-init
loop-c-init c = record {
  long = c.in_ok-accepted.ensures.lists;
  rest = λ n wanted a b s. c.in_ok-accepted.ensures.each n wanted b s;
  built = λ all s. c.in_ok-lanes.ensures.items;
}

pub loop-c-preserved : goal.loop-c-preserved
loop-c-preserved c =
    let at = c.loop-c.c in
    let rest = c.loop-c.invariant.rest in
    record {
      long = c.take_list-own.ensures.long ∙ c.loop-c.invariant.long;
      rest = λ n wanted a b s.
          c.take_list-own.ensures.others n (omega (arith, a)) ∙ rest n wanted (omega
          (arith, a)) b s;
      built = λ all s.
          one-lane (IsBacklog c.args.start c.args.seen.now) c.args.sums.now all s at _
          c.loop-c.lanes.items _ c.lane_of.result c.loop-c-test.true
          (c.loop-c.invariant.built all s)
          c.in_ok-push.ensures.items (λ lane b.
          let l : at < length c.in_ok-dropped.dropped.items =
          omega (arith, c.loop-c-test.true, c.in_ok-dropped.ensures.lists) in
          lane-same c.lane_of.result lane _
          (c.lane_of.ensures.accepted ∙ c.take_list-own.ensures.taken
          ∙ rest at lane.accepted (omega arith) c.loop-c-test.true b.of_accepted)
          (c.lane_of.ensures.drops ∙ c.in_ok-drops.ensures
          ∙ ap (filter_map (shown_drop c.args.seen.now))
          (c.as_slice.ensures ∙ c.index.ensures
          ∙ get_or_default c.in_ok-dropped.dropped.items at c.index.result.now [] l
          ∙ c.in_ok-dropped.ensures.each at (drop_ids lane) c.loop-c-test.true b.of_dropped)
          ∙ b.of_drops)
          c.lane_of.ensures.pulled c.lane_of.ensures.delivered c.lane_of.ensures.retired b.of_sums);
    }
