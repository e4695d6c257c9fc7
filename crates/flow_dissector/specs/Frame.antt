-- The flow of a frame: each layer is a case on the bytes that the layer before it leaves.
use Rattle.std.specs.Prelude.{ℕ, ◌==◌, List, if◌then◌else◌, Option, Some, None}
use Rattle.steer_base.specs.declared.flow.Flow.{Flow}
use Rattle.steer_base.specs.declared.flow.Flow.TheVariants.{Bare}
use Rattle.flow_dissector.specs.Carried.{Carried}
use Rattle.flow_dissector.specs.Ethernet.{packet_in}
use Rattle.flow_dissector.specs.Ipv4.{is_ipv4, ipv4_payload, ipv4_flow}
use Rattle.flow_dissector.specs.Ipv6.{is_ipv6, ipv6_payload, ipv6_flow}

-- the payload of an IP packet of this type, if its headers are complete and it is not a fragment
unfoldable pub payload_in : ℕ → List ℕ → Option Carried
payload_in kind packet =
    if kind == 0x0800 then (if is_ipv4 packet then ipv4_payload packet else None)
    else if kind == 0x86dd then (if is_ipv6 packet then ipv6_payload packet else None)
    else None

-- the flow of an IP packet of this type
unfoldable pub ip_flow : ℕ → List ℕ → Flow
ip_flow kind packet =
    if kind == 0x0800 then ipv4_flow packet
    else if kind == 0x86dd then ipv6_flow packet
    else Bare

-- the flow of what a frame carries
abbrev pub carried_flow : Option Carried → Flow
carried_flow None = Bare
carried_flow (Some carried) = ip_flow carried.kind carried.bytes

-- the flow of a frame
unfoldable pub flow_of : List ℕ → Flow
flow_of frame = carried_flow (packet_in frame)
