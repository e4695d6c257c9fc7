-- An IPv6 packet (RFC 8200, sections 3 and 4).
use Rattle.std.specs.Prelude.{ℕ, zero, suc, ◌+◌, ◌*◌, ◌/◌, Bool, not, ◌&&◌, ◌||◌, ◌==◌, List}
use Rattle.std.specs.Prelude.{length, drop, nat_le, nat_lt, slice_index, if◌then◌else◌, Option}
use Rattle.std.specs.Prelude.{None}
use Rattle.std.specs.Option.{option_and_then}
use Rattle.byteorder.specs.Endian.{big_number}
use Rattle.steer_base.specs.declared.flow.Pair.{Pair}
use Rattle.steer_base.specs.declared.flow.Pair.TheVariants.{V6}
use Rattle.steer_base.specs.declared.flow.Flow.{Flow}
use Rattle.steer_base.specs.declared.flow.Flow.TheVariants.{Bare}
use Rattle.flow_dissector.specs.Carried.{Carried, carries}
use Rattle.flow_dissector.specs.Ports.{flow_between}

-- whether a packet begins with a complete header of version 6, of 40 bytes
unfoldable pub is_ipv6 : List ℕ → Bool
is_ipv6 packet = nat_le 40 (length packet) && slice_index packet 0 / 16 == 6

-- the IPv6 address in the first 16 bytes
unfoldable pub ipv6_address : List ℕ → ℕ
ipv6_address bytes = big_number 16 bytes

-- the source and the destination address of an IPv6 packet
abbrev pub ipv6_pair : List ℕ → Pair
ipv6_pair packet = V6 (ipv6_address (drop 8 packet)) (ipv6_address (drop 24 packet))

-- whether a next header is an extension that is skipped: hop-by-hop options, a routing header or
-- destination options
abbrev pub is_extension : ℕ → Bool
is_extension next = next == 0 || next == 43 || next == 60

-- the length of an IPv6 extension according to the extension
abbrev pub extension_len : List ℕ → ℕ
extension_len bytes = (slice_index bytes 1 + 1) * 8

-- what follows at most this many extensions, the first of which has the number `next`: each begins
-- with the number of the next header and its own length; nothing follows one that is truncated or
-- one too many
unfoldable pub after_extensions : ℕ → ℕ → List ℕ → Option Carried
after_extensions zero next bytes = if not (is_extension next) then carries next bytes else None
after_extensions (suc left) next bytes =
    if not (is_extension next) then carries next bytes
    else if nat_lt (length bytes) 2 then None
    else if nat_lt (length bytes) (extension_len bytes) then None
    else after_extensions left (slice_index bytes 0) (drop (extension_len bytes) bytes)

-- what was carried, unless it is a fragment header, number 44: its content is not known
abbrev pub unfragmented : Carried → Option Carried
unfragmented carried = if carried.kind == 44 then None else carries carried.kind carried.bytes

-- the payload of an IPv6 packet, after at most eight extensions
unfoldable pub ipv6_payload : List ℕ → Option Carried
ipv6_payload packet = option_and_then unfragmented (after_extensions 8 (slice_index packet 6)
    (drop 40 packet))

-- the flow of bytes that should be an IPv6 packet
unfoldable pub ipv6_flow : List ℕ → Flow
ipv6_flow packet = if is_ipv6 packet then flow_between (ipv6_pair packet)
    (ipv6_payload packet) else Bare
