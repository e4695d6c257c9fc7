use Rattle.std.proofs.Common.{arith}
use Rattle.backlog.proofs.WindowLemmas.{IsWindow-more, count_fits}
use Rattle.backlog.proofs.window.Window.add.Goals as goal

pub overflow_add-index_mut : goal.overflow_add-index_mut
overflow_add-index_mut c =
    omega (
      arith,
      count_fits c.self.inside.last c.self.inside.counts.items c.args.bucket
          c.index_mut.result.now c.self.invariant c.requires.bucket c.index_mut.ensures.value,
    )

pub invariant_of-self : goal.invariant_of-self
invariant_of-self c =
    IsWindow-more c.self.inside.last c.try_push_back.new.self c.self.inside.counts.items
    c.args.bucket c.index_mut.result.now
    c.self.invariant (rw (← c.self.view_is) at c.requires.room) c.requires.bucket
    c.index_mut.ensures.value
    (rw c.unwrap.ensures at c.try_push_back.ensures.ok)
