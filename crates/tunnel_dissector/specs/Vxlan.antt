-- The packet in a virtual extensible LAN (RFC 7348, section 5).
use Rattle.std.specs.Prelude.{ℕ, ◌/◌, ◌%◌, Bool, ◌&&◌, ◌==◌, List, length, drop, nat_le}
use Rattle.std.specs.Prelude.{slice_index, if◌then◌else◌, Option, None}
use Rattle.byteorder.specs.Endian.{big_number}
use Rattle.flow_dissector.specs.Carried.{Carried}
use Rattle.flow_dissector.specs.Ethernet.{packet_in}

-- whether a segment begins with a complete UDP header to port 4789 and a complete VXLAN header with
-- the flag of a valid network identifier, 0x08
unfoldable pub is_vxlan : List ℕ → Bool
is_vxlan segment =
    nat_le 16 (length segment) && big_number 2 (drop 2 segment) == 4789
    && slice_index segment 8 / 8 % 2 == 1

-- the IP packet of the Ethernet frame in a VXLAN segment
unfoldable pub vxlan_held : List ℕ → Option Carried
vxlan_held segment = if is_vxlan segment then packet_in (drop 16 segment) else None
