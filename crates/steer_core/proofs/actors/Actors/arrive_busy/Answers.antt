use Rattle.std.proofs.Common.{ℕ, Some, ap, sym, ◌∙◌}
use Rattle.steer_core.proofs.BusyLemmas.{done-after-arrival}
use Rattle.steer_core.proofs.actors.Actors.arrive_busy.Goals as goal

pub returns-in-Some-clause-busy : goal.returns-in-Some-clause-busy
returns-in-Some-clause-busy c =
    let next = c.arrive_next.ensures in
    let queue : ℕ = c.queue.inside.0 in
    done-after-arrival c.args.self.now.machine c.arrive_next.new.self.machine c.args.busy.now
    next.state next.setup c.requires queue c.with-busy.result c.sound.ensures.kept.given.few_queues
    (sym next.queue ∙ c.in-Some.is ∙ ap (λ (x : ℕ). Some x) (sym c.queue.view_is))
    c.with-busy.ensures.members
