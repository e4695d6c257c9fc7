-- The packet in generic routing encapsulation (RFC 2784, RFC 2890, and RFC 1701 for a bridged
-- frame).
use Rattle.std.specs.Prelude.{ℕ, ◌+◌, ◌*◌, ◌/◌, ◌%◌, Bool, ◌&&◌, ◌==◌, List, length, drop, nat_le}
use Rattle.std.specs.Prelude.{slice_index, if◌then◌else◌, Option, None}
use Rattle.byteorder.specs.Endian.{big_number}
use Rattle.flow_dissector.specs.Carried.{Carried, carries}
use Rattle.flow_dissector.specs.Ethernet.{is_ip, packet_in}

-- the number of flags that are set for a checksum, a key and a sequence number; each adds 4 bytes
abbrev pub gre_options : ℕ → ℕ
gre_options flags = flags / 128 % 2 + flags / 32 % 2 + flags / 16 % 2

-- the length of a GRE header according to the header
abbrev pub gre_header_len : List ℕ → ℕ
gre_header_len bytes = 4 + 4 * gre_options (slice_index bytes 0)

-- whether bytes begin with a complete GRE header of version 0 with the routing flag 0x40 clear
unfoldable pub is_gre : List ℕ → Bool
is_gre bytes =
    nat_le 4 (length bytes) && slice_index bytes 1 % 8 == 0 && slice_index bytes 0 / 64 % 2 == 0
    && nat_le (gre_header_len bytes) (length bytes)

-- the IP packet in bytes of this Ethernet type: the bytes themselves, or the packet in a bridged
-- frame
unfoldable pub typed : ℕ → List ℕ → Option Carried
typed kind bytes =
    if is_ip kind then carries kind bytes
    else if kind == 0x6558 then packet_in bytes
    else None

-- the IP packet after a GRE header
unfoldable pub gre_held : List ℕ → Option Carried
gre_held bytes =
    if is_gre bytes then typed (big_number 2 (drop 2 bytes)) (drop (gre_header_len bytes) bytes)
    else None
