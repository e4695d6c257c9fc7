use Rattle.hop_core.proofs.Wholes.{read-delivered, read-retired, whole-retire}
use Rattle.hop_core.proofs.hop.Hop.retire.Goals as goal

pub invariant_of-self : goal.invariant_of-self
invariant_of-self c =
    let w = c.self.invariant in
    let named = rw (← c.self.view_is) at c.requires.lane in
    let retired =
    read-retired _ c.args.lane c.index-retired.result.now w named c.index-retired.ensures in
    let delivered = read-delivered _ c.args.lane c.index.result.now w named c.index.ensures in
    rw retired (whole-retire _ c.args.lane named
    (rw (retired, delivered) at c.if-retired-index.true) w)
