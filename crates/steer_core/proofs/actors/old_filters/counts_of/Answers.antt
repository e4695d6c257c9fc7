use Rattle.std.proofs.Common.{arith}
use Rattle.std.specs.Prelude.{slice_index}
use Rattle.std.proofs.lemmas.List.{length-set}
use Rattle.steer_core.proofs.FilterLemmas.{all_set, one_more}
use Rattle.steer_core.proofs.actors.old_filters.counts_of.Goals as goal

pub loop-queue-preserved : goal.loop-queue-preserved
loop-queue-preserved c =
    let at = c.loop-queue in
    let few = c.requires.within at.queue 0 (omega arith) in
    let short = c.requires.few in
    let long = length-set at.counts at.queue c.flow_count.result in
    record {
      long = omega (arith, long, at.invariant.long);
      same = one_more (slice_index c.args.settings.now.counts) at.counts at.queue _
          (omega (arith, short, at.invariant.long))
          c.flow_count.ensures at.invariant.same;
      within = all_set 32768 at.counts at.queue _ (omega (arith, few, c.flow_count.ensures))
          at.invariant.within;
    }
