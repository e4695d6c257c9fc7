use Rattle.std.proofs.Common.{arith}
use Rattle.steer_invariant.specs.InvariantLaws.{MayStart}
use Rattle.steer_core.proofs.MakeLemmas.{are_new, is_made}
use Rattle.steer_core.proofs.actors.Actors.make.Goals as goal

pub invariant_of-result : goal.invariant_of-result
invariant_of-result c =
    let may : MayStart c.args.plan.now c.args.packets.now =
    record { start = omega arith; few = c.requires.few; flows = c.requires.flows } in
    (is_made c.args.plan.now c.args.packets.now c.args.cut _ may
    (are_new c.args.plan.now c.args.packets.now c.args.cut _ _ _ _ _ _ _ _ _ _ _
    c.in_ok-around.ensures.fixed.given
    c.in_ok-around.ensures.fixed.settings
    c.in_ok-around.ensures.tables.socket
    c.in_ok-around.ensures.tables.filters
    c.in_ok-around.ensures.tables.notes
    c.in_ok-hops.ensures.rx
    c.in_ok-hops.ensures.tx
    c.in_ok-around.ensures.lists.arrivals
    c.in_ok-around.ensures.lists.sent
    c.in_ok-around.ensures.lists.writes
    c.in_ok-around.ensures.lists.commands)).0

pub returns : goal.returns
returns c =
    let may : MayStart c.args.plan.now c.args.packets.now =
    record { start = omega arith; few = c.requires.few; flows = c.requires.flows } in
    (is_made c.args.plan.now c.args.packets.now c.args.cut _ may
    (are_new c.args.plan.now c.args.packets.now c.args.cut _ _ _ _ _ _ _ _ _ _ _
    c.in_ok-around.ensures.fixed.given
    c.in_ok-around.ensures.fixed.settings
    c.in_ok-around.ensures.tables.socket
    c.in_ok-around.ensures.tables.filters
    c.in_ok-around.ensures.tables.notes
    c.in_ok-hops.ensures.rx
    c.in_ok-hops.ensures.tx
    c.in_ok-around.ensures.lists.arrivals
    c.in_ok-around.ensures.lists.sent
    c.in_ok-around.ensures.lists.writes
    c.in_ok-around.ensures.lists.commands)).1
