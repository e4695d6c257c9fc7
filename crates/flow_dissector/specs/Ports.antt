-- The flow of two addresses and a payload.
use Rattle.std.specs.Prelude.{ℕ, ◌==◌, List, length, drop, nat_lt, if◌then◌else◌, Option, Some}
use Rattle.std.specs.Prelude.{None}
use Rattle.byteorder.specs.Endian.{big_number}
use Rattle.steer_base.specs.declared.flow.Pair.{Pair}
use Rattle.steer_base.specs.declared.flow.Proto.{Proto}
use Rattle.steer_base.specs.declared.flow.Proto.TheVariants.{Tcp, Udp}
use Rattle.steer_base.specs.declared.flow.Flow.{Flow}
use Rattle.steer_base.specs.declared.flow.Flow.TheVariants.{Two, Four}
use Rattle.flow_dissector.specs.Carried.{Carried}

-- the flow with the ports in the first four bytes of a segment; without ports if it has fewer bytes
unfoldable pub flow_with_ports : Pair → Proto → List ℕ → Flow
flow_with_ports pair proto segment =
    if nat_lt (length segment) 4 then Two pair
    else Four pair proto (big_number 2 segment) (big_number 2 (drop 2 segment))

-- the flow of two addresses and a payload: with ports for TCP and UDP (RFC 9293, RFC 768), else of
-- the addresses only
unfoldable pub flow_between : Pair → Option Carried → Flow
flow_between pair None = Two pair
flow_between pair (Some payload) =
    if payload.kind == 6 then flow_with_ports pair Tcp payload.bytes
    else if payload.kind == 17 then flow_with_ports pair Udp payload.bytes
    else Two pair
