use Rattle.std.proofs.Common.{subst, sym}
use Rattle.hop_model.specs.Events.{MayAsk}
use Rattle.hop_model.specs.declared.event.HopEvent.{HopEvent}
use Rattle.steer_core.specs.Weighings.{weigh_event}
use Rattle.steer_invariant.proofs.Invariant.RowLemmas.{held_weigh}
use Rattle.steer_invariant.proofs.StepInvariant.WeighLemmas.{may_weigh}
use Rattle.steer_core.proofs.actors.Actors.weigh.Goals as goal

pub weigh-requires : goal.weigh-requires
weigh-requires c =
    let P : HopEvent → Type 0 = MayAsk c.self.inside.rx in
    let e = rw (← c.self.view_is) at c.weighing-with.ensures in
    subst P (sym e)
    (may_weigh _ c.args.q c.in-Looked.want (rw (← c.self.view_is) at c.requires)
    c.self.invariant.0.kept)

pub invariant_of-self : goal.invariant_of-self
invariant_of-self c =
    let e = rw (← c.self.view_is) at c.weighing-with.ensures in (
      held_weigh _ c.args.q c.in-Looked.want (weigh_event c.args.q c.weighing-with.result)
          c.weigh.new.self
          (rw (← c.self.view_is) at c.requires) e c.weigh.ensures.state c.self.invariant.0,
      c.self.invariant.1,
    )
