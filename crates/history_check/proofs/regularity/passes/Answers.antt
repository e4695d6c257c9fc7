use Rattle.history_check.proofs.FromShape.{numbered_from, shape_from}
use Rattle.history_check.proofs.regularity.passes.Goals as goal

pub make-requires-2-clause-numbered : goal.make-requires-2-clause-numbered
make-requires-2-clause-numbered c =
    numbered_from c.args.packets.now c.args.apps c.args.h.now c.requires.shape

pub invariant_of-items : goal.invariant_of-items
invariant_of-items c =
    let shape = shape_from c.args.packets.now c.args.apps c.args.h.now c.requires.shape in
    record {
      is_known = c.in_ok-known.ensures;
      are_numbered = shape.numbered;
      of_the_capture = shape.of_the_capture;
      has_apps = c.requires.apps;
    }
