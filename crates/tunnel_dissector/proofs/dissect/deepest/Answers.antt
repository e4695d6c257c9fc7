use Rattle.std.proofs.Common.{◌≡◌, ◌<◌, ◌+◌, ◌-◌, drop, None, Some, sym, arith}
use Rattle.flow_dissector.specs.Carried.{Carried}
use Rattle.tunnel_dissector.specs.Levels.{entered}
use Rattle.tunnel_dissector.proofs.Deepest.{stays, stays_here, enters}
use Rattle.tunnel_dissector.proofs.dissect.deepest.Goals as goal

pub returns-in_default : goal.returns-in_default
returns-in_default c =
    let none : entered c.loop-depth.kind c.loop-depth.packet.now ≡ None =
    sym c.in_default.ensures.packet in
    rw c.dissect_ip.ensures (stays _ _ _ _ _ _ c.loop-depth.invariant.same none)

pub loop-depth-preserved : goal.loop-depth-preserved
loop-depth-preserved c =
    let d = c.loop-depth.depth in
    let level : Carried =
    record {
      kind = c.in-Some.at.kind;
      bytes = drop c.in-Some.at.start c.loop-depth.packet.now;
    } in
    let is : entered c.loop-depth.kind c.loop-depth.packet.now ≡ Some level =
    sym c.in-Some.ensures.packet in
    let some : 0 < 4 - d = omega arith in
    let less : (4 - d) - 1 ≡ 4 - (d + 1) = omega arith in
    record {
      few = omega arith;
      ip = c.in-Some.ensures.kind;
      same = rw (← less, c.split_at.ensures.back)
          (enters d (4 - d) _ _ _ _ level some c.loop-depth.invariant.same is);
    }

pub returns : goal.returns
returns c =
    let none : 4 - c.loop-depth.depth ≡ 0 = omega arith in
    rw c.dissect_ip-2.ensures (stays_here _ _ _ _ _ _ none c.loop-depth.invariant.same)
