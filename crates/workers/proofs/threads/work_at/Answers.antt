use Rattle.workers.proofs.Names.{length}
use Rattle.workers.proofs.PostLemmas.{seen-or-looked}
use Rattle.workers.proofs.threads.work_at.Goals as goal

pub returns : goal.returns
returns g c =
    record {
      goes = c.work.ensures.goes;
      counts = c.work.ensures.counts;
      free = c.work.ensures.free;
      ended = seen-or-looked c.args.tally.now.workers
          (length c.args.stage.now.shared.given.packets) c.args.post.now.seated.seats
          c.work.new.seats c.work.new.counter c.work.result c.work.ensures.finished
          c.work.ensures.idle;
    }
