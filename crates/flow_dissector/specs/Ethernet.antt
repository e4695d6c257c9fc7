-- From a frame to the IP packet in it (IEEE 802.3, IEEE 802.1Q, and RFC 894 and RFC 2464 for the
-- two types).
use Rattle.std.specs.Prelude.{ℕ, zero, suc, Bool, not, ◌||◌, ◌==◌, List, length, drop, nat_lt}
use Rattle.std.specs.Prelude.{if◌then◌else◌, Option, None}
use Rattle.std.specs.Option.{option_and_then}
use Rattle.byteorder.specs.Endian.{big_number}
use Rattle.flow_dissector.specs.Carried.{Carried, carries}

-- whether the type is that of a VLAN tag, customer or service
abbrev pub is_tag : ℕ → Bool
is_tag kind = kind == 0x8100 || kind == 0x88a8

-- whether the type is that of IPv4 or IPv6
abbrev pub is_ip : ℕ → Bool
is_ip kind = kind == 0x0800 || kind == 0x86dd

-- what follows at most this many VLAN tags: each has 4 bytes, of which the last two are the next
-- type
unfoldable pub after_tags : ℕ → ℕ → List ℕ → Option Carried
after_tags zero kind bytes = carries kind bytes
after_tags (suc left) kind bytes =
    if not (is_tag kind) then carries kind bytes
    else if nat_lt (length bytes) 4 then None
    else after_tags left (big_number 2 (drop 2 bytes)) (drop 4 bytes)

-- what was carried, if it is an IP packet
abbrev pub only_ip : Carried → Option Carried
only_ip carried = if is_ip carried.kind then carries carried.kind carried.bytes else None

-- the IP packet of a frame: it follows two addresses of 6 bytes, the type, and at most two VLAN
-- tags
unfoldable pub packet_in : List ℕ → Option Carried
packet_in frame =
    if nat_lt (length frame) 14 then None
    else option_and_then only_ip (after_tags 2 (big_number 2 (drop 12 frame)) (drop 14 frame))
