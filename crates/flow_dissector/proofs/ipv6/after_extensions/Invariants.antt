use Rattle.std.proofs.Common.{◌≡◌, ◌≤◌, length, drop, slice_index}
use Rattle.flow_dissector.specs.Ipv6.{after_extensions}
use Rattle.flow_dissector.proofs.ipv6.after_extensions.Given as goal

-- the extensions that are left carry what all of them carry
abbrev pub invariant-loop-rest : goal.invariant-loop-rest
invariant-loop-rest l =
    (l.start ≤ length l.packet)
    × (after_extensions l.left l.next (drop l.start l.packet) ≡ after_extensions 8
    (slice_index l.packet 6) (drop 40 l.packet))

abbrev pub decreases-loop-rest : goal.decreases-loop-rest
decreases-loop-rest l = l.left
