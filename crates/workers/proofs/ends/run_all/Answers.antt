use Rattle.hint_words.specs.Loads.{LoadsAreStored}
use Rattle.run_workers.specs.Tally.{AreSeatsOf}
use Rattle.workers.specs.Posts.{ArePosts, CanBeManned, HaveStayed}
use Rattle.workers.specs.Threads.{ControllerCan, ControllerRan}
use Rattle.workers.proofs.Names.{◌≡◌, true, [], length, map, subst, sym, ap, ◌∙◌, journal, Plan}
use Rattle.workers.proofs.Names.{AreOfFlows, stage, GoOn, all_free, IsStart, workers_stage}
use Rattle.workers.proofs.BackLemmas.{controller-can, first-work, is-back, packets-are, wire-can}
use Rattle.workers.proofs.PostLemmas.{can-be-manned, have-stayed, posts-are-free, posts-go-on}
use Rattle.workers.proofs.PostLemmas.{seats-of-tally, worker_at}
use Rattle.workers.proofs.ends.run_all.Goals as goal

pub man-posts-requires-clause-counters : goal.man-posts-requires-clause-counters
man-posts-requires-clause-counters g c =
    let start : IsStart g.i.plan g.i.packets g.i.cut c.args.run = c.requires.1.1.1.1.1.1.0 in
    let posts : ArePosts g.i.plan.workers c.args.posts = c.requires.1.1.1.1.1.1.1 in
    posts.count ∙ sym start.crew.count

pub man-posts-requires-clause-posts : goal.man-posts-requires-clause-posts
man-posts-requires-clause-posts g c =
    let start : IsStart g.i.plan g.i.packets g.i.cut c.args.run = c.requires.1.1.1.1.1.1.0 in
    let posts : ArePosts g.i.plan.workers c.args.posts = c.requires.1.1.1.1.1.1.1 in
    posts.posts ∙ ap (journal []) (sym start.crew.count)

pub run_beside-wire-requires-clause-posts : goal.run_beside-wire-requires-clause-posts
run_beside-wire-requires-clause-posts g c κs within =
    let start : IsStart g.i.plan g.i.packets g.i.cut c.args.run = c.requires.1.1.1.1.1.1.0 in
    let posts : ArePosts g.i.plan.workers c.args.posts = c.requires.1.1.1.1.1.1.1 in
    let work = first-work g.i c.args.run start c.boards_have_their_settings.ensures in
    can-be-manned (workers_stage c.args.run.stage) c.args.posts g.i.plan.workers
    c.args.run.crew.items c.man-posts.result.items posts start.crew.count work.some work.work
    c.man-posts.ensures.crew c.man-posts.ensures.counters

pub run_beside-wire-requires-clause-wire : goal.run_beside-wire-requires-clause-wire
run_beside-wire-requires-clause-wire g c κs within =
    let start : IsStart g.i.plan g.i.packets g.i.cut c.args.run = c.requires.1.1.1.1.1.1.0 in
    wire-can g.i c.args.run start c.boards_have_their_settings.ensures

pub run_beside-wire-requires-clause-controller : goal.run_beside-wire-requires-clause-controller
run_beside-wire-requires-clause-controller g c κs within =
    let start : IsStart g.i.plan g.i.packets g.i.cut c.args.run = c.requires.1.1.1.1.1.1.0 in
    let plan : g.i.plan ≡ c.args.plan.now = c.requires.1.1.1.1.0 in
    subst (λ (p : Plan). ControllerCan p (stage c.args.run.stage.shared c.args.run.stage.rx
    c.args.run.stage.tx) c.args.run.controller) plan
    (controller-can g.i c.args.run start c.boards_have_their_settings.ensures)

pub close-requires-clause-is : goal.close-requires-clause-is
close-requires-clause-is g c =
    let posts : ArePosts g.i.plan.workers c.args.posts = c.requires.1.1.1.1.1.1.1 in posts.is_tally

pub close-requires-clause-seats : goal.close-requires-clause-seats
close-requires-clause-seats g c =
    let start : IsStart g.i.plan g.i.packets g.i.cut c.args.run = c.requires.1.1.1.1.1.1.0 in
    let posts : ArePosts g.i.plan.workers c.args.posts = c.requires.1.1.1.1.1.1.1 in
    let work = first-work g.i c.args.run start c.boards_have_their_settings.ensures in
    let t = workers_stage c.args.run.stage in
    let can : CanBeManned t c.args.posts.tally c.man-posts.result.items =
    can-be-manned t c.args.posts g.i.plan.workers c.args.run.crew.items
    c.man-posts.result.items posts start.crew.count work.some work.work
    c.man-posts.ensures.crew c.man-posts.ensures.counters in
    subst (AreSeatsOf c.args.posts.tally) (sym c.dismiss-crew.ensures.seats)
    (seats-of-tally t c.args.posts.tally c.man-posts.result.items
    c.run_beside-wire.result.1.0.items c.run_beside-wire.ensures.posts can)

pub returns : goal.returns
returns g c =
    let start : IsStart g.i.plan g.i.packets g.i.cut c.args.run = c.requires.1.1.1.1.1.1.0 in
    let plan : g.i.plan ≡ c.args.plan.now = c.requires.1.1.1.1.0 in
    let flows : AreOfFlows g.i.packets = c.requires.1.1.1.1.1.0 in
    let posts : ArePosts g.i.plan.workers c.args.posts = c.requires.1.1.1.1.1.1.1 in
    let settings = c.boards_have_their_settings.ensures in
    let work = first-work g.i c.args.run start settings in
    let t = workers_stage c.args.run.stage in
    let tally = c.args.posts.tally in
    let before = c.man-posts.result.items in
    let after = c.run_beside-wire.result.1.0.items in
    let worked = c.run_beside-wire.ensures.posts in
    let can : CanBeManned t tally before =
    can-be-manned t c.args.posts g.i.plan.workers c.args.run.crew.items before posts
    start.crew.count work.some work.work c.man-posts.ensures.crew c.man-posts.ensures.counters in
    let crew = sym c.dismiss-crew.ensures.crew in
    let go : GoOn t c.args.run.crew.items c.dismiss-crew.result.0.items =
    subst (GoOn t c.args.run.crew.items) crew
    (subst (λ xs. GoOn t xs (map worker_at after)) c.man-posts.ensures.crew
    (posts-go-on t tally before after worked)) in
    record {
      back = is-back g.i c.args.run start settings flows
          c.crews_go_on.ensures.keep c.crews_go_on.ensures.play
          (record {
            stage = c.args.run.stage;
            crew = c.dismiss-crew.result.0;
            wire = c.run_beside-wire.result.0;
            controller = c.run_beside-wire.result.1.1;
          }) go c.run_beside-wire.ensures.wire
          (subst (λ (p : Plan). ControllerRan p (stage c.args.run.stage.shared
          c.args.run.stage.rx c.args.run.stage.tx) c.args.run.controller
          c.run_beside-wire.result.1.1) (sym plan) c.run_beside-wire.ensures.controller);
      late = start.late;
      free = subst (λ xs. all_free xs ≡ true) crew (posts-are-free t tally before after worked);
      stayed = subst (λ xs. HaveStayed xs (length g.i.packets)) crew
          (have-stayed t tally before after worked can (length g.i.packets)
          (packets-are g.i c.args.run start settings) c.loaded_counts_hold.ensures
          (subst LoadsAreStored c.dismiss-crew.ensures.seats c.close.ensures));
    }
