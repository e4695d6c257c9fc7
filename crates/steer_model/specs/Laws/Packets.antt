-- Laws of the packets of a capture.
use Rattle.std.specs.Prelude.{ℕ, ◌≡◌, List}
use Rattle.pcap_reader.specs.declared.record.PcapRecord.{PcapRecord}
use Rattle.steer_base.specs.declared.packet.Packet.{Packet}
use Rattle.steer_model.specs.State.Ranges.{AreOfFlows}
use Rattle.steer_model.specs.Capture.Packets.{ArePackets}

-- The packets of a capture are determined by its records, its bytes, the key and the kinds.
abbrev pub PacketsAreOne : Type 0
PacketsAreOne =
    (key kinds : ℕ) (bytes : List ℕ) (records : List PcapRecord) (packets others : List Packet)
    → ArePackets key kinds bytes records packets → ArePackets key kinds bytes records others
    → packets ≡ others

-- Each packet of a capture has a flow number below the number of packets, and all packets of one
-- number have one hash.
abbrev pub PacketsAreOfFlows : Type 0
PacketsAreOfFlows =
    (key kinds : ℕ) (bytes : List ℕ) (records : List PcapRecord) (packets : List Packet)
    → ArePackets key kinds bytes records packets → AreOfFlows packets
