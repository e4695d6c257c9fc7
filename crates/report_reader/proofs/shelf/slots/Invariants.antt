use Rattle.std.proofs.Common.{◌≡◌, ◌++◌, drop, map}
use Rattle.report_reader.specs.Slots.{slot_of}
use Rattle.report_reader.proofs.shelf.slots.Given as goal

abbrev pub invariant-loop-x : goal.invariant-loop-x
invariant-loop-x l =
    l.slots.items ++ map (slot_of l.start l.kind) (drop l.x l.seen)
    ≡ map (slot_of l.start l.kind) l.seen
