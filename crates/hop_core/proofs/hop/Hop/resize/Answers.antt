use Rattle.hop_core.proofs.Wholes.{whole-resize}
use Rattle.hop_core.proofs.hop.Hop.resize.Goals as goal

pub invariant_of-self : goal.invariant_of-self
invariant_of-self c =
    let asked = rw (← c.self.view_is) at c.requires in
    rw (c.resize.ensures, c.round_up.ensures.value, c.len_of.ensures.len)
    (whole-resize _ c.args.p _ asked.producer asked.closed asked.drained c.self.invariant)
