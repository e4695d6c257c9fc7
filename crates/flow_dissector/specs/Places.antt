-- Where the layers of a frame begin.
use Rattle.std.specs.Prelude.{ℕ, ◌-◌, List, length, drop, Option}
use Rattle.std.specs.Option.{option_map}
use Rattle.flow_dissector.specs.declared.ethernet.IpAt.{IpAt}
use Rattle.flow_dissector.specs.declared.payload.Payload.{Payload}
use Rattle.flow_dissector.specs.Carried.{Carried}
use Rattle.flow_dissector.specs.Ethernet.{packet_in}
use Rattle.flow_dissector.specs.Frame.{payload_in}

-- the type of a frame's IP packet, and its offset in the frame
unfoldable pub ip_at : List ℕ → Option IpAt
ip_at frame = option_map (λ c. record { kind = c.kind; start = length frame - length c.bytes })
    (packet_in frame)

-- the protocol of a packet's payload, and its offset in the packet
unfoldable pub payload_at : ℕ → List ℕ → Option Payload
payload_at kind packet =
    option_map (λ c. record { proto = c.kind; start = length packet - length c.bytes })
    (payload_in kind packet)

-- the packet that begins at this place of a frame
abbrev pub packet_from : List ℕ → IpAt → Carried
packet_from frame at = record { kind = at.kind; bytes = drop at.start frame }

-- the payload that begins at this place of a packet
abbrev pub payload_from : List ℕ → Payload → Carried
payload_from packet at = record { kind = at.proto; bytes = drop at.start packet }
