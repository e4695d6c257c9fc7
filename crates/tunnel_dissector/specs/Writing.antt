-- A frame in a VXLAN (RFC 7348, section 5), in UDP (RFC 768) and IPv4 (RFC 791).
use Rattle.std.specs.Prelude.{ℕ, ◌+◌, ◌-◌, ◌*◌, ◌/◌, ◌%◌, List, [], ◌∷◌, ◌++◌, length}
use Rattle.byteorder.specs.Endian.{big_bytes}

-- the Ethernet header of a written frame: two addresses, and the type of IPv4
abbrev pub ethernet_header : List ℕ
ethernet_header = 0x02 ∷ 0 ∷ 0 ∷ 0 ∷ 0 ∷ 0x02 ∷ 0x02 ∷ 0 ∷ 0 ∷ 0 ∷ 0 ∷ 0x01 ∷ 0x08 ∷ 0x00 ∷ []

-- a sum of 16-bit words with its carry added once
abbrev pub folded : ℕ → ℕ
folded sum = sum / 65536 + sum % 65536

-- the sum of the IPv4 header's words without the checksum: the fixed ones, the length, the
-- addresses
abbrev pub header_sum : (total src dst : ℕ) → ℕ
header_sum total src dst =
    0x4500 + 0x4011 + total + src / 65536 + src % 65536 + dst / 65536 + dst % 65536

-- the checksum of the IPv4 header: the complement of its one's complement sum (RFC 1071)
abbrev pub header_checksum : (total src dst : ℕ) → ℕ
header_checksum total src dst = 65535 - folded (folded (header_sum total src dst))

-- the IPv4 header of 20 bytes with this total length: no fragment, time to live 64, UDP
abbrev pub ipv4_header : (total src dst : ℕ) → List ℕ
ipv4_header total src dst =
    (0x45 ∷ 0 ∷ []) ++ (big_bytes 2 total ++ ((0 ∷ 0 ∷ 0 ∷ 0 ∷ 64 ∷ 17 ∷ [])
    ++ (big_bytes 2 (header_checksum total src dst) ++ (big_bytes 4 src ++ big_bytes 4 dst))))

-- the UDP header from port 1024 to 4789, with this length and without a checksum
abbrev pub udp_header : ℕ → List ℕ
udp_header len = (0x04 ∷ 0x00 ∷ 0x12 ∷ 0xb5 ∷ []) ++ (big_bytes 2 len ++ (0 ∷ 0 ∷ []))

-- the VXLAN header: the flag of a valid network identifier, and the identifier in the upper 24 bits
-- of the second word
abbrev pub vxlan_header : ℕ → List ℕ
vxlan_header vni = (0x08 ∷ 0 ∷ 0 ∷ 0 ∷ []) ++ big_bytes 4 (vni * 256)

-- the 50 bytes before a written frame of this length
unfoldable pub vxlan_headers : (src dst vni len : ℕ) → List ℕ
vxlan_headers src dst vni len =
    ethernet_header
    ++ (ipv4_header (36 + len) src dst ++ (udp_header (16 + len) ++ vxlan_header vni))

-- the bytes of a frame in a VXLAN
abbrev pub vxlan_bytes : (src dst vni : ℕ) → List ℕ → List ℕ
vxlan_bytes src dst vni frame = vxlan_headers src dst vni (length frame) ++ frame
