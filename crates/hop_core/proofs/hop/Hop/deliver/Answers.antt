use Rattle.hop_core.proofs.Wholes.{fits-deliver, read-delivered, whole-deliver}
use Rattle.hop_core.proofs.hop.Hop.deliver.Goals as goal

pub push-requires-clause-room : goal.push-requires-clause-room
push-requires-clause-room c =
    let w = c.self.invariant in
    let lane = rw (← c.self.view_is) at c.requires.lane in
    let delivered = read-delivered _ c.args.lane c.index-delivered.result.now w lane
    c.index-delivered.ensures in
    let more = rw (delivered, c.pulled.ensures) at c.if-delivered-pulled.true in
    fits-deliver _ c.args.lane c.args.to lane (rw (← c.self.view_is) at c.requires.out) more w

pub invariant_of-self : goal.invariant_of-self
invariant_of-self c =
    let w = c.self.invariant in
    let lane = rw (← c.self.view_is) at c.requires.lane in
    let delivered = read-delivered _ c.args.lane c.index-delivered.result.now w lane
    c.index-delivered.ensures in
    let more = rw (delivered, c.pulled.ensures) at c.if-delivered-pulled.true in
    let outs = rw (c.accepted_at-id.ensures, delivered) at c.push.ensures in
    rw (delivered, outs) (whole-deliver _ c.args.lane c.args.to lane
    (rw (← c.self.view_is) at c.requires.out) more w)
