-- The packets of a generated capture.
use Rattle.std.specs.Prelude.{ℕ, ◌+◌, ◌%◌, List, [], ◌∷◌, ◌++◌, map}
use Rattle.std.specs.List.{range_with_len}
use Rattle.byteorder.specs.Endian.{big_bytes}
use Rattle.pcap_reader.specs.Writing.{Packet}
use Rattle.plan_reader.specs.Seeds.{seeded_word}
use Rattle.cap_gen.specs.declared.frame.TheConstants.{FIRST_PORT, PORTS}

-- the source address of a flow: 10.0.0.0 plus its number
abbrev pub source_of : ℕ → ℕ
source_of flow = 0x0a000000 + flow

-- the source port of a flow: `PORTS` ports from `FIRST_PORT` on, used in turn
abbrev pub port_of : ℕ → ℕ
port_of flow = FIRST_PORT + flow % PORTS

-- the Ethernet header (IEEE 802.3): the two addresses, and the type of IPv4
abbrev pub ethernet : List ℕ
ethernet = 2 ∷ 0 ∷ 0 ∷ 0 ∷ 0 ∷ 2 ∷ 2 ∷ 0 ∷ 0 ∷ 0 ∷ 0 ∷ 1 ∷ 8 ∷ 0 ∷ []

-- the IPv4 header (RFC 791) of 20 bytes: 40 bytes in all, time to live 64, TCP, to 10.128.0.1
abbrev pub ip_header : ℕ → List ℕ
ip_header flow =
    (0x45 ∷ 0 ∷ 0 ∷ 40 ∷ 0 ∷ 0 ∷ 0 ∷ 0 ∷ 64 ∷ 6 ∷ 0 ∷ 0 ∷ []) ++ (big_bytes 4 (source_of flow)
    ++ (10 ∷ 128 ∷ 0 ∷ 1 ∷ []))

-- the TCP header (RFC 9293) of 20 bytes, to port 80
abbrev pub tcp_header : ℕ → List ℕ
tcp_header flow =
    big_bytes 2 (port_of flow)
    ++ (0 ∷ 80 ∷ 0 ∷ 0 ∷ 0 ∷ 0 ∷ 0 ∷ 0 ∷ 0 ∷ 0 ∷ 0x50 ∷ 0 ∷ 0 ∷ 0 ∷ 0 ∷ 0 ∷ 0 ∷ 0 ∷ [])

-- the frame of every packet of a flow
unfoldable pub generated_frame : ℕ → List ℕ
generated_frame flow = ethernet ++ (ip_header flow ++ tcp_header flow)

-- packet i of a seed: its flow is word i modulo the number of flows, and its time is second i
abbrev pub packet_of : (seed flows index : ℕ) → Packet
packet_of seed flows i = record {
  sec = i;
  frac = 0;
  frame = generated_frame (seeded_word seed i % flows);
}

-- the first n packets of a seed, one word of the generator for each
abbrev pub packets_of : (seed flows count : ℕ) → List Packet
packets_of seed flows n = map (packet_of seed flows) (range_with_len 0 n)

-- their frames
abbrev pub frames_of : (seed flows count : ℕ) → List (List ℕ)
frames_of seed flows n = map (λ packet. packet.frame) (packets_of seed flows n)
