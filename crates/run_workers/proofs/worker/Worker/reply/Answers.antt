use Rattle.run_workers.proofs.Names.{refl, subst, RepliesOrKeeps}
use Rattle.run_workers.proofs.AtLemmas.{read_at, reply_room, words_within}
use Rattle.run_workers.proofs.ReplyLemmas.{reply_goes_on}
use Rattle.run_workers.proofs.TurnLemmas.{others_of_serve}
use Rattle.run_workers.proofs.worker.Worker.reply.Goals as goal

pub reply-requires : goal.reply-requires
reply-requires g c =
    let there =
    read_at c.args.self.now.servers c.args.i c.index_mut.result.now c.requires.within
    c.index_mut.ensures.value in
    let at = c.requires.is.servers c.args.i c.index_mut.result.now there in
    record {
      table = c.requires.is.tx.table;
      hint_table = c.requires.is.hint_table;
      words = words_within _ _ at.room c.requires.is.sizes;
      outside = (c.requires.is.tx.outside, c.requires.is.tx.gate);
      settings = c.requires.is.sizes.maps;
      room = reply_room _ c.args.self.now c.args.seats.now c.requires.is c.args.i _ at;
      is = at.is;
      kept = at.maps;
    }

pub returns : goal.returns
returns g c =
    let there =
    read_at c.args.self.now.servers c.args.i c.index_mut.result.now c.requires.within
    c.index_mut.ensures.value in
    let replies =
    subst (λ xs. RepliesOrKeeps c.args.stage.now.shared.given xs c.index_mut.result.now
    c.reply.new.self c.args.seats.now.tx c.reply.new.seat c.args.seats.now.hint
    c.reply.new.hint c.reply.result) c.as_slice.ensures c.reply.ensures.replies in
    record {
      goes = reply_goes_on _ c.args.self.now _ c.args.seats.now _ c.args.i c.index_mut.result.now
          c.reply.new.self c.reply.result refl refl refl refl refl there c.requires.is replies
          c.reply.ensures.is c.reply.ensures.kept c.reply.ensures.outside.0
          c.reply.ensures.outside.1;
      one = record {
        x = c.index_mut.result.now;
        y = c.reply.new.self;
        there = there;
        are = refl;
        call = replies;
      };
      others = others_of_serve c.args.self.now _ refl refl refl;
    }
