use Rattle.std.proofs.Common.{[], ◌∷◌, ◌++◌, length, ap, arith, ◌∙◌}
use Rattle.steer_top.specs.PlacedLists.{placed_of}
use Rattle.steer_top.proofs.PlacedLists.{length-placed_of, placed_of-more}
use Rattle.steer_top.proofs.placed_list.PlacedList.push.Goals as goal

pub push-requires : goal.push-requires
push-requires c =
    let size = length-placed_of c.self.inside.flows c.self.inside.depths.items c.self.invariant in
    record {
      few = omega (
        arith,
        c.requires.few,
        ap length c.self.view_is,
        size,
        c.self.invariant,
      );
    }

pub returns : goal.returns
returns c =
    let flow = c.args.placed.flow in
    let depth = c.args.placed.depth in
    ap (λ flows. placed_of flows c.push_reserved.new.self.items) c.in_ok-push.ensures.ok
    ∙ ap (placed_of (c.self.inside.flows ++ flow ∷ []))
    (c.push_reserved.ensures.items ∙ ap (λ depths. depths ++ depth ∷ []) c.reserve.ensures.items)
    ∙ placed_of-more c.self.inside.flows c.self.inside.depths.items flow depth c.self.invariant
    ∙ ap (λ placed. placed ++ c.args.placed ∷ []) c.self.view_is
