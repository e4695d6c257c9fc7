use Rattle.std.proofs.Common.{◌≡◌, List, length, IfOk, subst}
use Rattle.std.proofs.lemmas.List.{length-map}
use Rattle.hop_core.specs.declared.left.LeftLane.{LeftLane}
use Rattle.hop_core.proofs.LeftLanes.{left-by-number}
use Rattle.hop_core.proofs.lanes.Lanes.into_left.Goals as goal

pub returns : goal.returns
returns c =
    let i = c.self.inside in
    let delivered : length c.args.delivered.items ≡ length i.lanes.items =
    rw (← c.self.view_is, length-map) at c.requires.delivered in
    let retired : length c.args.retired.items ≡ length i.lanes.items =
    rw (← c.self.view_is, length-map) at c.requires.retired in
    rw (← c.self.view_is)
    (subst (λ (lefts : List LeftLane). IfOk c.left_lanes.result (λ left. left.items ≡ lefts))
    (left-by-number i.lanes.items c.args.delivered.items c.args.retired.items i.limit i.room i.start
    i.limited delivered retired) c.left_lanes.ensures)
