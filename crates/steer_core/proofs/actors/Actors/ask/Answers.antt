use Rattle.std.proofs.Common.{◌∙◌, sym}
use Rattle.steer_invariant.proofs.Invariant.RowLemmas.{held_ask}
use Rattle.steer_invariant.proofs.StepInvariant.PollerLemmas.{read-note}
use Rattle.steer_core.proofs.actors.Actors.ask.Goals as goal

pub invariant_of-self : goal.invariant_of-self
invariant_of-self c =
    let named = rw (← c.self.view_is) at c.requires in
    let is = read-note _ c.args.q c.index.result.now named c.self.invariant.0.kept
    c.index.ensures in (
      held_ask _ c.args.q c.in-Asking.filter c.hash_of-hash.result c.write_filter.new.filters named
          (sym is ∙ c.in-Asking.is) c.write_filter.ensures c.self.invariant.0,
      c.self.invariant.1,
    )
