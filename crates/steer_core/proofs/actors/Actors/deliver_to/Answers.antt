use Rattle.std.proofs.Common.{ap, subst, sym}
use Rattle.hop_model.specs.Events.{MayAsk}
use Rattle.hop_model.specs.declared.event.HopEvent.{HopEvent}
use Rattle.hop_model.specs.declared.event.HopEvent.TheVariants as event
use Rattle.steer_model.specs.Steps.Applications.{in_lane}
use Rattle.steer_invariant.proofs.Invariant.RowLemmas.{held_deliver}
use Rattle.steer_invariant.proofs.StepInvariant.PollerLemmas.{may_deliver}
use Rattle.steer_core.proofs.actors.Actors.deliver_to.Goals as goal

pub deliver-requires : goal.deliver-requires
deliver-requires c =
    let P : HopEvent → Type 0 = MayAsk c.self.inside.rx in
    let e = rw (← c.self.view_is) at (ap (event.Deliver c.args.c) c.requires.to) in
    subst P (sym e)
    (may_deliver _ c.args.c (in_lane c.self.inside.rx c.args.c)
    (rw (← c.self.view_is) at c.requires.cpu) c.self.invariant.0.kept)

pub invariant_of-self : goal.invariant_of-self
invariant_of-self c =
    let e = rw (← c.self.view_is) at (ap (event.Deliver c.args.c) c.requires.to) in (
      held_deliver _ c.args.c (event.Deliver c.args.c c.args.to) c.deliver.new.self
          (rw (← c.self.view_is) at c.requires.cpu) e c.deliver.ensures.state c.self.invariant.0,
      c.self.invariant.1,
    )
