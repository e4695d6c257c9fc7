use Rattle.std.proofs.Common.{◌≡◌, ◌≤◌, length, drop}
use Rattle.byteorder.specs.Endian.{big_number}
use Rattle.flow_dissector.specs.Ethernet.{after_tags}
use Rattle.flow_dissector.proofs.ethernet.after_tags.Given as goal

-- the tags that are left carry what all of them carry
abbrev pub invariant-loop-left : goal.invariant-loop-left
invariant-loop-left l =
    (l.start ≤ length l.frame)
    × (after_tags l.left l.kind (drop l.start l.frame) ≡ after_tags 2
    (big_number 2 (drop 12 l.frame)) (drop 14 l.frame))

abbrev pub decreases-loop-left : goal.decreases-loop-left
decreases-loop-left l = l.left
