use Rattle.std.proofs.Common.{sym, ◌∙◌}
use Rattle.backlog.proofs.WindowLemmas.{IsWindow-less, oldest_counts}
use Rattle.backlog.proofs.window.Window.forget_oldest.Goals as goal

pub overflow_sub-index_mut : goal.overflow_sub-index_mut
overflow_sub-index_mut c =
    oldest_counts c.self.inside.last c.self.inside.counts.items c.in-Some.oldest
    c.index_mut.result.now c.self.invariant
    (sym c.pop_front.ensures.value ∙ c.in-Some.is) c.index_mut.ensures.value

pub invariant_of-self : goal.invariant_of-self
invariant_of-self c =
    IsWindow-less c.self.inside.last c.pop_front.new.self c.self.inside.counts.items
    c.in-Some.oldest c.index_mut.result.now c.self.invariant
    (sym c.pop_front.ensures.value ∙ c.in-Some.is) c.index_mut.ensures.value
    c.pop_front.ensures.items
