use Rattle.run_workers.proofs.Names.{refl, ap, ◌+◌, arith, finished_by}
use Rattle.run_workers.proofs.TallyLemmas.{counter_loads, counts_both, loaded_more}
use Rattle.run_workers.proofs.worker.Worker.told_by_all.Goals as goal

pub loop-word-preserved : goal.loop-word-preserved
loop-word-preserved c =
    let i = c.loop-word.invariant in
    let seat = ap (λ h. h.steps) c.load-count.ensures.step in
    let most = i.most in
    record {
      counts = counts_both c.args.tally.now c.args.counter.now c.loop-word.counter _ _
          (finished_by c.args.self.now) i.counts
          (counter_loads c.args.tally.now c.loop-word.counter _ (finished_by c.args.self.now)
          c.loop-word.word c.load-count.result c.load-count.ensures.step refl i.counts.is);
      sum = i.sum + c.load-count.result;
      loaded = loaded_more c.loop-word.counter.seat.steps c.load-count.new.seat.steps
          c.loop-word.word i.sum c.load-count.result seat i.loaded;
      most = omega (arith, most);
    }
