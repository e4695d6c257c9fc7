use Rattle.std.proofs.Common.{◌≡◌, map, take}
use Rattle.hop_model.specs.Shape.{classes_for}
use Rattle.hop_core.proofs.hop.class_counts.Given as goal

abbrev pub invariant-loop-count : goal.invariant-loop-count
invariant-loop-count l = l.classes.items ≡ map (classes_for l.exact) (take l.count-index l.counts)
