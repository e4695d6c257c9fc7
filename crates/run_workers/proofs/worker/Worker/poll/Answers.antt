use Rattle.run_workers.proofs.Names.{refl}
use Rattle.run_workers.proofs.AtLemmas.{read_at, words_within}
use Rattle.run_workers.proofs.PollLemmas.{poll_goes_on}
use Rattle.run_workers.proofs.TurnLemmas.{others_of_poll}
use Rattle.run_workers.proofs.worker.Worker.poll.Goals as goal

pub poll-requires : goal.poll-requires
poll-requires g c =
    let there =
    read_at c.args.self.now.pollers c.args.i c.index_mut.result.now c.requires.within
    c.index_mut.ensures.value in
    let at = c.requires.is.pollers c.args.i c.index_mut.result.now there in
    record {
      table = c.requires.is.rx.table;
      hint_table = c.requires.is.hint_table;
      words = words_within _ _ at.room c.requires.is.sizes;
      filters = c.requires.is.sizes.filters;
      outside = (c.requires.is.rx.outside, c.requires.is.rx.gate);
      queue = at.within;
      settings = c.requires.is.sizes.queue_settings;
      cpus = c.requires.is.sizes.cpus;
      room = at.room;
      is = at.is;
      kept = at.kept;
    }

pub returns : goal.returns
returns g c =
    let there =
    read_at c.args.self.now.pollers c.args.i c.index_mut.result.now c.requires.within
    c.index_mut.ensures.value in
    record {
      goes = poll_goes_on _ c.args.self.now _ c.args.seats.now _ c.args.i c.index_mut.result.now
          c.poll.new.self refl refl refl refl refl there c.requires.is c.poll.ensures.polls
          c.poll.ensures.is c.poll.ensures.kept c.poll.ensures.ring c.poll.ensures.outside.0
          c.poll.ensures.outside.1;
      one = record {
        x = c.index_mut.result.now;
        y = c.poll.new.self;
        there = there;
        are = refl;
        call = (c.poll.ensures.polls, c.poll.ensures.idle);
      };
      others = others_of_poll c.args.self.now _ refl refl refl;
    }
