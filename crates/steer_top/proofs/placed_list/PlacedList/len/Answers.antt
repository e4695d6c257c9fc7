use Rattle.std.proofs.Common.{length, ap, arith}
use Rattle.steer_top.proofs.PlacedLists.{length-placed_of}
use Rattle.steer_top.proofs.placed_list.PlacedList.len.Goals as goal

pub returns : goal.returns
returns c =
    let size = length-placed_of c.self.inside.flows c.self.inside.depths.items c.self.invariant in
    omega (arith, c.len.ensures, size, ap length c.self.view_is)
