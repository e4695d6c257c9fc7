use Rattle.workers.specs.Wires.{KeepsRings}
use Rattle.workers.proofs.Names.{◌≡◌, length, map, range_with_len, ArePushed}
use Rattle.workers.proofs.WireLemmas.{Led}
use Rattle.workers.proofs.wire.Wire.run.Given as goal

abbrev pub invariant-loop-id : goal.invariant-loop-id
invariant-loop-id g l =
    Led l.fn.shared.given l.fn.shared.filters l.fn.self.reta l.self.arrivals.items l.fn.seat l.seat
    × (map (λ a. a.id) l.self.arrivals.items ≡ range_with_len 0 l.id)
    × (length l.self.arrivals.items ≡ l.id) × (l.seat.table ≡ l.fn.seat.table)
    × (l.self.reta ≡ l.fn.self.reta) × (l.self.arrivals.room ≡ l.fn.self.arrivals.room)
    × ArePushed (length l.fn.shared.given.packets) l.self × KeepsRings l.fn.self l.self
