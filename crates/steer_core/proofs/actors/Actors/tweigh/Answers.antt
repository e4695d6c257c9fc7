use Rattle.std.proofs.Common.{subst, sym}
use Rattle.hop_model.specs.Events.{MayAsk}
use Rattle.hop_model.specs.declared.event.HopEvent.{HopEvent}
use Rattle.steer_core.specs.Weighings.{weigh_event}
use Rattle.steer_core.proofs.ChangeLemmas.{by_tx-is}
use Rattle.steer_invariant.proofs.Invariant.RowLemmas.{held_tweigh}
use Rattle.steer_invariant.proofs.StepInvariant.ReplyLemmas.{may_tweigh}
use Rattle.steer_core.proofs.actors.Actors.tweigh.Goals as goal

pub weigh-requires : goal.weigh-requires
weigh-requires c =
    let P : HopEvent → Type 0 = MayAsk c.self.inside.tx in
    let e = rw (← c.self.view_is) at c.next_sending-with.ensures in
    subst P (sym e) (may_tweigh _ c.args.a _ (rw (← c.self.view_is) at c.requires)
    c.self.invariant.0.kept)

pub invariant_of-self : goal.invariant_of-self
invariant_of-self c =
    let e = rw (← c.self.view_is) at c.next_sending-with.ensures in (
      held_tweigh _ c.args.a (weigh_event c.args.a c.next_sending-with.result) c.weigh.new.self
          (rw (← c.self.view_is) at c.requires) e
          c.weigh.ensures.state c.self.invariant.0,
      c.self.invariant.1,
    )

pub returns-clause-state : goal.returns-clause-state
returns-clause-state c =
    let e = rw (← c.self.view_is) at c.next_sending-with.ensures in
    rw (← c.self.view_is)
    (by_tx-is _ c.self.invariant.0 (weigh_event c.args.a c.next_sending-with.result) _
    c.weigh.new.self e c.weigh.ensures.state)
