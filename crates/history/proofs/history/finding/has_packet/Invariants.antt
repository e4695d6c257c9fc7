use Rattle.std.proofs.Common.{◌≡◌, drop, map}
use Rattle.history.specs.Finding.{is_in}
use Rattle.history.proofs.history.finding.has_packet.Given as goal

abbrev pub invariant-loop-packet : goal.invariant-loop-packet
invariant-loop-packet l = is_in l.id (map (λ x. x) (drop l.packet-index l.packets)) ≡ is_in l.id
    l.packets
