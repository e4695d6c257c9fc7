-- An IPv4 packet (RFC 791, section 3.1).
use Rattle.std.specs.Prelude.{ℕ, ◌*◌, ◌/◌, ◌%◌, ◌^◌, Bool, not, ◌&&◌, ◌==◌, List, length, drop}
use Rattle.std.specs.Prelude.{nat_le, slice_index, if◌then◌else◌, Option, None}
use Rattle.byteorder.specs.Endian.{big_number}
use Rattle.steer_base.specs.declared.flow.Pair.{Pair}
use Rattle.steer_base.specs.declared.flow.Pair.TheVariants.{V4}
use Rattle.steer_base.specs.declared.flow.Flow.{Flow}
use Rattle.steer_base.specs.declared.flow.Flow.TheVariants.{Bare}
use Rattle.flow_dissector.specs.Carried.{Carried, carries}
use Rattle.flow_dissector.specs.Ports.{flow_between}

-- the length of an IPv4 header according to the header
abbrev pub ipv4_header_len : List ℕ → ℕ
ipv4_header_len packet = 4 * (slice_index packet 0 % 16)

-- whether a packet begins with a complete header of version 4, of at least 20 bytes
unfoldable pub is_ipv4 : List ℕ → Bool
is_ipv4 packet =
    nat_le 20 (length packet) && slice_index packet 0 / 16 == 4
    && nat_le 20 (ipv4_header_len packet) && nat_le (ipv4_header_len packet) (length packet)

-- whether an IPv4 packet is a fragment: more fragments follow or the offset is not 0, the low 14 of
-- the 16 bits at offset 6
abbrev pub is_ipv4_fragment : List ℕ → Bool
is_ipv4_fragment packet = not (big_number 2 (drop 6 packet) % 2 ^ 14 == 0)

-- the source and the destination address of an IPv4 packet
abbrev pub ipv4_pair : List ℕ → Pair
ipv4_pair packet = V4 (big_number 4 (drop 12 packet)) (big_number 4 (drop 16 packet))

-- the payload of an IPv4 packet; that of a fragment is not known
unfoldable pub ipv4_payload : List ℕ → Option Carried
ipv4_payload packet =
    if is_ipv4_fragment packet then None
    else carries (slice_index packet 9) (drop (ipv4_header_len packet) packet)

-- the flow of bytes that should be an IPv4 packet
unfoldable pub ipv4_flow : List ℕ → Flow
ipv4_flow packet = if is_ipv4 packet then flow_between (ipv4_pair packet)
    (ipv4_payload packet) else Bare
