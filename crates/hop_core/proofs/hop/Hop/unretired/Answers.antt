use Rattle.hop_core.proofs.Empties.{unretired}
use Rattle.hop_core.proofs.Wholes.{read-retired}
use Rattle.hop_core.proofs.hop.Hop.unretired.Goals as goal

pub returns : goal.returns
returns c =
    let w = c.self.invariant in
    let named = rw (← c.self.view_is) at c.requires in
    let retired = read-retired _ c.args.lane c.index.result.now w named c.index.ensures in
    let head = rw retired at c.number_at-head.ensures in
    rw (← c.self.view_is) (rw (head, c.tail.ensures) (unretired _ c.args.lane w.sound))
