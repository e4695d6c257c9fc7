use Rattle.std.proofs.Common.{sym, ap, ◌∙◌}
use Rattle.steer_model.specs.State.Notes.{is_asking}
use Rattle.steer_invariant.proofs.Invariant.RowLemmas.{held_take}
use Rattle.steer_invariant.proofs.StepInvariant.PollerLemmas.{read-note}
use Rattle.steer_core.proofs.actors.Actors.take.Goals as goal

pub invariant_of-self : goal.invariant_of-self
invariant_of-self c =
    let named = rw (← c.self.view_is) at c.requires in
    let is = read-note _ c.args.q c.index.result.now named c.self.invariant.0.kept
    c.index.ensures in
    let quiet = sym (ap is_asking is) ∙ sym c.is_asking.ensures ∙ c.if-is_asking.false in (
      held_take _ c.args.q c.take.new.self named quiet c.take.ensures.state c.self.invariant.0,
      c.self.invariant.1,
    )
