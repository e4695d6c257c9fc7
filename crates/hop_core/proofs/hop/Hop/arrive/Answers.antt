use Rattle.hop_core.proofs.Wholes.{fits-arrive, whole-arrive}
use Rattle.hop_core.proofs.hop.Hop.arrive.Goals as goal

pub push-requires-clause-room : goal.push-requires-clause-room
push-requires-clause-room c =
    let asked = rw (← c.self.view_is) at c.requires in
    fits-arrive _ c.args.p c.args.id asked.producer asked.below asked.fresh c.self.invariant

pub invariant_of-self : goal.invariant_of-self
invariant_of-self c =
    let asked = rw (← c.self.view_is) at c.requires in
    rw c.push.ensures (whole-arrive _ c.args.p c.args.id asked.producer asked.below asked.fresh
    c.self.invariant)
