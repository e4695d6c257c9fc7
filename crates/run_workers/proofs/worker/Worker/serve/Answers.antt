use Rattle.run_workers.specs.declared.worker.Part.TheVariants as part
use Rattle.run_workers.proofs.SameLemmas.{goes_both}
use Rattle.run_workers.proofs.TurnLemmas.{others_both, served}
use Rattle.run_workers.proofs.worker.Worker.serve.Goals as goal

pub returns : goal.returns
returns g c =
    record {
      goes = goes_both _ _ _ _ _ _ _ c.take-took.ensures.goes c.reply-replied.ensures.goes;
      one = served _ c.args.i c.take-took.result c.reply-replied.result _ _ _ _ _ _
          c.take-took.ensures.one c.reply-replied.ensures.one;
      others = others_both part.Serve _ _ _ c.take-took.ensures.others
          c.reply-replied.ensures.others;
    }
