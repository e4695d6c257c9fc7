use Rattle.hop_core.proofs.Empties.{accepted_count}
use Rattle.hop_core.proofs.hop.Hop.accepted_len.Goals as goal

pub returns : goal.returns
returns c =
    let w = c.self.invariant in
    rw (← c.self.view_is) (rw (c.number_at-none.ensures, c.tail.ensures)
    (accepted_count _ c.args.lane w.sound))
