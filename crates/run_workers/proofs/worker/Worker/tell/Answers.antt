use Rattle.run_workers.proofs.Names.{refl, finished_by}
use Rattle.run_workers.proofs.TallyLemmas.{counter_tells}
use Rattle.run_workers.proofs.worker.Worker.tell.Goals as goal

pub returns-then-count-counter : goal.returns-then-count-counter
returns-then-count-counter c =
    record {
      is = counter_tells c.args.tally.now c.args.counter.now _ (finished_by c.args.self.now)
          c.finished-count.result c.store.ensures.step refl c.finished-count.ensures
          c.requires.is;
    }
