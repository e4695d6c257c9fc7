use Rattle.std.proofs.Common.{arith}
use Rattle.std.proofs.lemmas.List.{length-set}
use Rattle.hop_model.specs.Hop.{head_at}
use Rattle.steer_core.proofs.FilterLemmas.{one_more}
use Rattle.steer_core.proofs.actors.old_filters.heads_of.Goals as goal

pub loop-cpu-preserved : goal.loop-cpu-preserved
loop-cpu-preserved c =
    let at = c.loop-cpu in
    let few = c.requires.few in
    let same = length-set at.heads at.cpu c.head.result in
    record {
      long = omega (arith, same, at.invariant.long);
      heads = one_more (λ cpu. head_at c.args.rx.now.fixed.start c.args.rx.now.bare cpu) at.heads
          at.cpu _ (omega (arith, few, at.invariant.long)) c.head.ensures at.invariant.heads;
    }
