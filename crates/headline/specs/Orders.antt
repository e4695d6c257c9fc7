-- In which order the packets of a flow are delivered.
use Rattle.std.specs.Prelude.{ℕ, ◌≡◌, Bool, not, ◌&&◌, ◌==◌, List, filter, map}
use Rattle.history.specs.Finding.{is_in}
use Rattle.history.specs.Lists.{arrivals_at, packet_at}
use Rattle.history.specs.declared.history.History.{History}
use Rattle.steer_base.specs.Orders.{InOrder, was_dropped}
use Rattle.steer_base.specs.declared.packet.Packet.{Packet}

-- Whether packet y came by receive queue q and is of the flow of packet x.
abbrev pub came_by : List Packet → History → (queue packet other : ℕ) → Bool
came_by packets h q x y =
    is_in y (arrivals_at h.arrivals q)
    && (packet_at packets y).flow_number == (packet_at packets x).flow_number

-- The packets in a list that came by queue q and are of the flow of packet x are a prefix of those
-- that arrived there, in the order of their arrival, without the ones that a processor dropped.
abbrev pub AreInOrder : List Packet → History → ℕ → ℕ → List ℕ → Type 0
AreInOrder packets h q x delivered =
    InOrder (came_by packets h q x) (arrivals_at h.arrivals q) (map (λ lane. lane.drops) h.lanes)
    delivered

-- The same where none of them is missing: the packets in a list that came by queue q and are of the
-- flow of packet x are those that arrived there, in the order of their arrival, without the ones
-- that a processor dropped.
abbrev pub AreAllInOrder : List Packet → History → ℕ → ℕ → List ℕ → Type 0
AreAllInOrder packets h q x delivered =
    filter (came_by packets h q x) delivered
    ≡ filter
    (λ y. came_by packets h q x y && not (was_dropped (map (λ lane. lane.drops) h.lanes) y))
    (arrivals_at h.arrivals q)
