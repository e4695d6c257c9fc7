-- How many flows the packets of a capture have.
use Rattle.std.specs.Prelude.{ℕ, ◌+◌, ◌<◌, ◌≡◌, List, fold, length, map, max}
use Rattle.steer_base.specs.declared.packet.Packet.{Packet}
use Rattle.history.specs.Lists.{packet_at}
use Rattle.steer_model.specs.Capture.Packets.{AreNumbered}

-- One more than the greatest flow number of these packets, and 0 without packets.
abbrev pub flow_count : List Packet → ℕ
flow_count packets =
    fold (λ most count. max most count) 0 (map (λ packet. packet.flow_number + 1) packets)

-- The packets have this many flows: each has one of the numbers below it, and each of these is the
-- number of some packet's flow. Packets of one number are of one flow.
pub record HaveFlows (packets : List Packet) (n : ℕ) : Type 0 where
  pub below : (x : ℕ) → x < length packets → (packet_at packets x).flow_number < n
  pub each : (number : ℕ) → number < n
      → (x : ℕ) × (x < length packets) × ((packet_at packets x).flow_number ≡ number)

-- Packets whose flows are numbered have as many flows as `flow_count` says.
abbrev pub FlowsAreCounted : Type 0
FlowsAreCounted = (packets : List Packet) → AreNumbered packets
    → HaveFlows packets (flow_count packets)
