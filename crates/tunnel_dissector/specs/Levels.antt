-- The IP packet that an IP packet holds, by the protocol of its payload.
use Rattle.std.specs.Prelude.{ℕ, ◌==◌, Bool, true, false, List, if◌then◌else◌, Option, Some, None}
use Rattle.std.specs.Option.{option_and_then}
use Rattle.steer_base.specs.declared.flow.Flow.{Flow}
use Rattle.steer_base.specs.declared.flow.Flow.TheVariants.{Bare, Two, Four}
use Rattle.flow_dissector.specs.Carried.{Carried, carries}
use Rattle.flow_dissector.specs.Frame.{payload_in, ip_flow}
use Rattle.tunnel_dissector.specs.Gre.{gre_held}
use Rattle.tunnel_dissector.specs.Vxlan.{vxlan_held}

-- the IP packet in a payload: IPv4 (4) and IPv6 (41) in IP (RFC 2003, RFC 2473, RFC 4213), GRE
-- (47), and VXLAN over UDP (17)
unfoldable pub held_by : Carried → Option Carried
held_by payload =
    if payload.kind == 4 then carries 0x0800 payload.bytes
    else if payload.kind == 41 then carries 0x86dd payload.bytes
    else if payload.kind == 47 then gre_held payload.bytes
    else if payload.kind == 17 then vxlan_held payload.bytes
    else None

-- the IP packet in the payload of an IP packet of this type, if the payload is known
unfoldable pub held_in : ℕ → List ℕ → Option Carried
held_in kind packet = option_and_then held_by (payload_in kind packet)

-- whether this is the flow of a frame without a complete IP header
abbrev pub is_bare : Flow → Bool
is_bare Bare = true
is_bare (Two pair) = false
is_bare (Four pair proto source destination) = false

-- the packet, if it has a flow
abbrev pub with_flow : Carried → Option Carried
with_flow carried = if is_bare (ip_flow carried.kind carried.bytes) then None else Some carried

-- the level that is entered from an IP packet: the packet in it, if that has a flow
unfoldable pub entered : ℕ → List ℕ → Option Carried
entered kind packet = option_and_then with_flow (held_in kind packet)
