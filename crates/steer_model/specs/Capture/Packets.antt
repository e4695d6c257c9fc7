-- The packets of a capture: of each frame its flow, the hash and the number of the flow, and its
-- length.
use Rattle.std.specs.Prelude.{ℕ, ◌+◌, ◌<◌, ◌≡◌, List, [], Some, length, get_or, slice_get}
use Rattle.std.specs.Prelude.{slice_range}
use Rattle.flow_dissector.specs.Frame.{flow_of}
use Rattle.history.specs.Lists.{packet_at}
use Rattle.pcap_reader.specs.declared.record.PcapRecord.{PcapRecord}
use Rattle.steer_base.specs.declared.packet.Packet.{Packet}
use Rattle.toeplitz.specs.Flows.{hash_of_flow}

-- the frame of a record, in the bytes of its file
abbrev pub frame_of : List ℕ → PcapRecord → List ℕ
frame_of bytes record_at = slice_range bytes record_at.start (record_at.start + record_at.len)

-- A packet has the flow of its frame, the hash of the flow by the key and its kinds, and the
-- length.
pub record IsOfRecord (key kinds : ℕ) (bytes : List ℕ) (from : PcapRecord) (packet : Packet)
    : Type 0 where
  pub flow : packet.flow.value ≡ flow_of (frame_of bytes from)
  pub hash : packet.hash ≡ hash_of_flow key packet.flow.value kinds
  pub len : packet.len ≡ from.len

-- Flows are numbered from 0 in order of first appearance: one number for each flow, each after all
-- smaller ones.
pub record AreNumbered (packets : List Packet) : Type 0 where
  pub same : (x y : ℕ) → x < length packets → y < length packets
      → (packet_at packets x).flow.value ≡ (packet_at packets y).flow.value
      → (packet_at packets x).flow_number ≡ (packet_at packets y).flow_number
  pub apart : (x y : ℕ) → x < length packets → y < length packets
      → (packet_at packets x).flow_number ≡ (packet_at packets y).flow_number
      → (packet_at packets x).flow.value ≡ (packet_at packets y).flow.value
  pub first : (x n : ℕ) → x < length packets → n < (packet_at packets x).flow_number
      → (y : ℕ) × (y < x) × ((packet_at packets y).flow_number ≡ n)

-- These are the packets of these records: one for each, in their order.
pub record ArePackets (key kinds : ℕ) (bytes : List ℕ) (records : List PcapRecord)
    (packets : List Packet) : Type 0 where
  pub many : length packets ≡ length records
  pub each : (x : ℕ) (from : PcapRecord) → slice_get records x ≡ Some from
      → IsOfRecord key kinds bytes from (packet_at packets x)
  pub numbered : AreNumbered packets

-- A packet has the flow of a frame, the hash of the flow by the key and its kinds, and the frame's
-- length.
pub record IsOfFrame (key kinds : ℕ) (frame : List ℕ) (packet : Packet) : Type 0 where
  pub flow : packet.flow.value ≡ flow_of frame
  pub hash : packet.hash ≡ hash_of_flow key packet.flow.value kinds
  pub len : packet.len ≡ length frame

-- These are the packets of these frames: one for each, in their order.
pub record ArePacketsOfFrames (key kinds : ℕ) (frames : List (List ℕ)) (packets : List Packet)
    : Type 0 where
  pub many : length packets ≡ length frames
  pub each : (x : ℕ) → x < length frames
      → IsOfFrame key kinds (get_or frames x []) (packet_at packets x)
  pub numbered : AreNumbered packets
