use Rattle.run_workers.proofs.Names.{refl, Inboxes}
use Rattle.run_workers.proofs.AtLemmas.{outs_within, read_at}
use Rattle.run_workers.proofs.DrainLemmas.{drain_goes_on}
use Rattle.run_workers.proofs.TurnLemmas.{others_of_drain}
use Rattle.run_workers.proofs.worker.Worker.drain.Goals as goal

pub drain-requires : goal.drain-requires
drain-requires g c =
    let there =
    read_at c.args.self.now.drains c.args.i c.index_mut.result.now c.requires.within
    c.index_mut.ensures.value in
    let at = c.requires.is.drains c.args.i c.index_mut.result.now there in
    record {
      table = c.requires.is.rx.table;
      within = at.within;
      mine = at.mine;
      outs = outs_within _ _ Inboxes _ at.exit_is c.requires.is.sizes.apps;
      is = at.is;
    }

pub returns : goal.returns
returns g c =
    let there =
    read_at c.args.self.now.drains c.args.i c.index_mut.result.now c.requires.within
    c.index_mut.ensures.value in
    record {
      goes = drain_goes_on _ c.args.self.now _ c.args.seats.now _ refl refl refl c.requires.is
          c.args.i c.index_mut.result.now c.drain.new.self refl refl refl there
          c.drain.ensures.serves c.drain.ensures.is c.drain.ensures.lane c.drain.ensures.exit
          c.drain.ensures.start;
      one = record {
        x = c.index_mut.result.now;
        y = c.drain.new.self;
        there = there;
        are = refl;
        call = (c.drain.ensures.stops, c.drain.ensures.did);
      };
      others = others_of_drain c.args.self.now _ refl refl refl;
    }
