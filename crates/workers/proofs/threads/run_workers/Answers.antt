use Rattle.std.specs.Prelude.{slice_get}
use Rattle.workers.specs.Posts.{HasWorked, HaveWorked}
use Rattle.workers.specs.declared.posts.Post.{Post}
use Rattle.workers.proofs.Names.{sendable, length, slice_index_or, subst, sym, ap, ◌∙◌}
use Rattle.workers.proofs.Names.{workers_stage}
use Rattle.workers.proofs.CrewLemmas.{at-place, written-whole}
use Rattle.workers.proofs.Crosses.{post_send, stage_sync, tally_sync}
use Rattle.workers.proofs.PostLemmas.{all-worked}
use Rattle.workers.proofs.threads.run_workers.Goals as goal

pub for_each_mut-requires-clause-accepts : goal.for_each_mut-requires-clause-accepts
for_each_mut-requires-clause-accepts g c κs within = λ i p less is.
    (c.requires.can.each i p.now
    (ap (λ xs. slice_get xs i) (sym c.as_mut_slice.ensures.value)
    ∙ at-place c.as_mut_slice.result.now i p.now less is)).1

pub returns : goal.returns
returns g c =
    let t = workers_stage c.args.stage.now in
    let tally = c.args.tally.now in
    let count = c.for_each_mut.auto.s in
    let worked : HaveWorked t tally c.as_mut_slice.result.now c.for_each_mut.new.s =
    all-worked t tally c.as_mut_slice.result.now c.for_each_mut.new.s count (λ i d less.
    let change = (c.for_each_mut.ensures i d less).1 in
    subst (λ (z : Post). HasWorked t tally z (slice_index_or c.for_each_mut.new.s i d))
    change.argument_is (subst (HasWorked t tally change.argument.now) change.left change.call)) in
    subst (HaveWorked t tally c.args.posts.items)
    (sym (written-whole c.args.posts.len c.for_each_mut.new.s c.args.posts.items
    c.args.posts.ok.0 (count ∙ ap length c.as_mut_slice.ensures.value)))
    (subst (λ xs. HaveWorked t tally xs c.for_each_mut.new.s) c.as_mut_slice.ensures.value worked)

pub for_each_mut-requires-sync-F : goal.for_each_mut-requires-sync-F
for_each_mut-requires-sync-F g c κs within = search (sendable, stage_sync, tally_sync) depth 60

pub for_each_mut-requires-send-T : goal.for_each_mut-requires-send-T
for_each_mut-requires-send-T g c κs within = search (sendable, post_send) depth 60
