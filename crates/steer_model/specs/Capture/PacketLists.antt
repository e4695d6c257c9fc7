-- The list of packets to which frames are added, one after another.
use Rattle.std.specs.Prelude.{ℕ, ◌<◌, ◌≤◌, ◌≡◌, List, [], ◌++◌, Some, length, map}
use Rattle.flow_dissector.specs.Frame.{flow_of}
use Rattle.history.specs.Lists.{packet_at}
use Rattle.steer_base.specs.declared.flow.Flow.{Flow}
use Rattle.steer_base.specs.declared.packet.Packet.{Packet}
use Rattle.steer_model.specs.Capture.FlowKeys.{FlowFits}
use Rattle.steer_model.specs.Capture.FlowNumbers.{flow_total, number_in}
use Rattle.steer_model.specs.Capture.Packets.{AreNumbered, ArePacketsOfFrames}
use Rattle.steer_model.specs.declared.flow_numbers.FlowNumbers.{FlowNumbers}
use Rattle.steer_model.specs.declared.numbered_packets.Dissected.{Dissected}
use Rattle.steer_model.specs.declared.numbered_packets.NumberedPackets.{NumberedPackets}
use Rattle.steer_model.specs.declared.packet_list.PacketList.{PacketList}
use Rattle.toeplitz.specs.Flows.{hash_of_flow}

-- The maps have the number of each packet's flow, and every number below their total is one of
-- these.
pub record HasNumbers (numbers : FlowNumbers) (packets : List Packet) : Type 0 where
  pub fits : (y : ℕ) → y < length packets → FlowFits (packet_at packets y).flow.value
  pub has : (y : ℕ) → y < length packets
      → number_in numbers (packet_at packets y).flow.value ≡ Some (packet_at packets y).flow_number
  pub from : (flow : Flow) (n : ℕ) → FlowFits flow → number_in numbers flow ≡ Some n
      → (y : ℕ) × (y < length packets) × ((packet_at packets y).flow.value ≡ flow)
  pub below : (y : ℕ) → y < length packets → (packet_at packets y).flow_number < flow_total numbers
  pub every : (n : ℕ) → n < flow_total numbers
      → (y : ℕ) × (y < length packets) × ((packet_at packets y).flow_number ≡ n)
  pub few : flow_total numbers ≤ length packets
  pub numbered : AreNumbered packets

-- These are the packets of these frames, hashed by this key and its kinds, and the numbers of their
-- flows.
pub record HasPackets (key kinds : ℕ) (frames : List (List ℕ)) (numbered : NumberedPackets)
    : Type 0 where
  pub packets : ArePacketsOfFrames key kinds frames numbered.packets.items
  pub numbers : HasNumbers numbered.numbers numbered.packets.items

-- what is kept of a frame until its flow is numbered
abbrev pub dissected_of : ℕ → ℕ → List ℕ → Dissected
dissected_of key kinds frame =
    record {
      flow = flow_of frame;
      hash = hash_of_flow key (flow_of frame) kinds;
      len = length frame;
    }

-- Of these frames, the first ones are packets by now, and the others wait for their numbers.
pub record IsListOf (key kinds : ℕ) (frames : List (List ℕ)) (list : PacketList) : Type 0 where
  pub key_is : list.key ≡ key
  pub kinds_are : list.kinds.0 ≡ kinds
  pub done : List (List ℕ)
  pub waiting : List (List ℕ)
  pub frames_are : done ++ waiting ≡ frames
  pub packets : HasPackets key kinds done list.numbered
  pub others : map (dissected_of key kinds) waiting ≡ list.waiting.items

-- All of these frames are packets, and none waits.
pub record IsSettledListOf (key kinds : ℕ) (frames : List (List ℕ)) (list : PacketList)
    : Type 0 where
  pub key_is : list.key ≡ key
  pub kinds_are : list.kinds.0 ≡ kinds
  pub packets : HasPackets key kinds frames list.numbered
  pub none : list.waiting.items ≡ []

-- The first list has no packets, and the second has those of these frames, by the same key.
pub record Takes (first : PacketList) (frames : List (List ℕ)) (list : PacketList) : Type 0 where
  pub key : ℕ
  pub kinds : ℕ
  pub empty : IsListOf key kinds [] first
  pub is : IsListOf key kinds frames list
