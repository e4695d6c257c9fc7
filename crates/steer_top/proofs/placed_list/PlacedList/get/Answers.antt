use Rattle.std.proofs.Common.{length, get_or, ap, arith, ◌∙◌, sym}
use Rattle.steer_base.specs.declared.flow.Flow.TheVariants.{Bare}
use Rattle.steer_top.specs.PlacedLists.{not_placed}
use Rattle.steer_top.proofs.PlacedLists.{get_or-placed_of, length-placed_of}
use Rattle.steer_top.proofs.placed_list.PlacedList.get.Goals as goal

pub get-requires : goal.get-requires
get-requires c =
    let size = length-placed_of c.self.inside.flows c.self.inside.depths.items c.self.invariant in
    omega (arith, c.requires, ap length c.self.view_is, size, c.self.invariant)

pub index-requires : goal.index-requires
index-requires c =
    let size = length-placed_of c.self.inside.flows c.self.inside.depths.items c.self.invariant in
    omega (arith, c.requires, ap length c.self.view_is, size)

pub returns : goal.returns
returns c =
    let flows = c.self.inside.flows in
    let depths = c.self.inside.depths.items in
    let size = length-placed_of flows depths c.self.invariant in
    let found = get_or-placed_of flows depths c.args.index c.index.result.now c.self.invariant
    (omega (arith, c.requires, ap length c.self.view_is, size)) in
    ap (λ flow. record { flow = flow; depth = c.index.result.now }) c.get.ensures
    ∙ ap (λ depth. record { flow = get_or flows c.args.index Bare; depth = depth }) c.index.ensures
    ∙ sym found
    ∙ ap (λ placed. get_or placed c.args.index not_placed) c.self.view_is
