use Rattle.workers.proofs.Names.{length, sym, ap, ◌∙◌, new_seats}
use Rattle.workers.proofs.PostLemmas.{first-counters, new-seats-count}
use Rattle.workers.proofs.posts.Posts.make.Goals as goal

pub counters_of-requires : goal.counters_of-requires
counters_of-requires c =
    let t = c.in_ok-tally in
    ap length t.ensures.seats ∙ new-seats-count t.tally.words.table 0 c.args.workers

pub returns : goal.returns
returns c =
    let t = c.in_ok-tally in
    let workers = t.ensures.workers in
    let first = first-counters t.tally t.seats.items c.in_ok-counters_of.field-0.items
    t.ensures.is
    (t.ensures.seats ∙ ap (new_seats t.tally.words.table 0) (sym workers))
    c.in_ok-counters_of.ensures in
    record {
      is_tally = t.ensures.is;
      count = first.0 ∙ workers;
      workers_are = workers;
      counters = first.1;
      posts = c.in_ok-make.ensures;
      crew = c.in_ok-make-2.ensures;
      seats = c.in_ok-make-3.ensures;
    }
