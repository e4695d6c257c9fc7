use Rattle.run_workers.proofs.Names.{refl}
use Rattle.run_workers.proofs.AtLemmas.{read_at, words_within}
use Rattle.run_workers.proofs.TakeLemmas.{take_goes_on}
use Rattle.run_workers.proofs.TurnLemmas.{others_of_serve}
use Rattle.run_workers.proofs.worker.Worker.take.Goals as goal

pub take-requires : goal.take-requires
take-requires g c =
    let there =
    read_at c.args.self.now.servers c.args.i c.index_mut.result.now c.requires.within
    c.index_mut.ensures.value in
    let at = c.requires.is.servers c.args.i c.index_mut.result.now there in
    record {
      table = c.requires.is.rx.table;
      hint_table = c.requires.is.hint_table;
      words = words_within _ _ at.room c.requires.is.sizes;
      outside = c.requires.is.rx.outside;
      «open» = c.requires.is.rx.gate;
      app = at.within;
      settings = c.requires.is.sizes.queue_settings;
      room = at.room;
      is = at.is;
    }

pub returns : goal.returns
returns g c =
    let there =
    read_at c.args.self.now.servers c.args.i c.index_mut.result.now c.requires.within
    c.index_mut.ensures.value in
    record {
      goes = take_goes_on _ c.args.self.now _ c.args.seats.now _ c.args.i c.index_mut.result.now
          c.take.new.self c.take.result refl refl refl refl refl there c.requires.is
          c.take.ensures.takes c.take.ensures.is c.take.ensures.outside c.take.ensures.open;
      one = record {
        x = c.index_mut.result.now;
        y = c.take.new.self;
        there = there;
        are = refl;
        call = c.take.ensures.takes;
      };
      others = others_of_serve c.args.self.now _ refl refl refl;
    }
