use Rattle.run_crew.specs.Sweeps.{all_free}
use Rattle.run_crew.proofs.Names.{◌∙◌, ap, length, refl, subst, sym, IsFull}
use Rattle.run_crew.proofs.RoundLemmas.{all_after, both_ways, go_both, go_first}
use Rattle.run_crew.proofs.rounds.sweep.Goals as goal

pub loop-init : goal.loop-init
loop-init g c =
    record {
      goes = go_first _ c.args.crew.now c.requires.work;
      rests = λ full free. refl;
    }

pub play_each-requires : goal.play_each-requires
play_each-requires g c =
    record { work = all_after _ c.args.crew.now c.loop.crew c.loop.invariant.goes }

pub loop-preserved : goal.loop-preserved
loop-preserved g c =
    record {
      goes = go_both _ c.args.crew.now c.loop.crew c.play_each.new.crew c.loop.invariant.goes
          c.play_each.ensures.goes;
      rests = λ full free.
          let same = c.loop.invariant.rests full free in
          let given = c.args.stage.now.shared.given in
          both_ways c.is_over.result c.if-is_over.false
          (c.is_over.ensures.rests
          (subst (λ xs. IsFull xs (length given.homes) given.txs (length given.packets)) (sym same)
          full) (ap all_free same ∙ free));
    }
