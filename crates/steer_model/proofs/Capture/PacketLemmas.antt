-- The packets of a capture are determined, and each has a number below their number.
use Rattle.std.proofs.Common.{ℕ, ◌-◌, ◌<◌, ◌≤◌, ◌≡◌, List, Option, Some, length, refl, ap, ◌∙◌, sym}
use Rattle.std.proofs.Common.{arith}
use Rattle.std.proofs.Common.{[], ◌∷◌, suc, zero, inl, inr, slice_get}
use Rattle.std.proofs.lemmas.Bool.{cases_lt}
use Rattle.std.proofs.lemmas.List.{get_or_default, same_lists}
use Rattle.history.specs.Lists.{no_packet, packet_at}
use Rattle.pcap_reader.specs.declared.record.PcapRecord.{PcapRecord}
use Rattle.steer_base.specs.Packets.{flow_shown}
use Rattle.steer_base.specs.declared.flow.Flow.{Flow}
use Rattle.steer_base.specs.declared.packet.Packet.{Packet}
use Rattle.steer_model.specs.State.Ranges.{AreOfFlows}
use Rattle.steer_model.specs.Capture.Packets.{AreNumbered, ArePackets, IsOfRecord}
use Rattle.toeplitz.specs.Flows.{hash_of_flow}

-- a number is at most the place of its packet, since each smaller one stands before it
number-below : (packets : List Packet) → AreNumbered packets → (bound x : ℕ) → x < bound
    → x < length packets
    → (packet_at packets x).flow_number ≤ x
number-below packets numbered zero x lt within = omega arith
number-below packets numbered (suc bound) x lt within =
    let n : ℕ = (packet_at packets x).flow_number in
    elim (cases_lt x n) [
      | inr le ↦ le
      | inl over ↦ (
          let below : n - 1 < n = omega arith in
          let before = numbered.first x (n - 1) within below in
          let earlier : before.0 < bound = omega (arith, before.1) in
          let inside : before.0 < length packets = omega (arith, before.1) in
          let least : (packet_at packets before.0).flow_number ≤ before.0 =
          number-below packets numbered bound before.0 earlier inside in
          omega (arith, before.1, before.2, least))
    ]

-- two lists of packets with the same flows
abbrev SameFlows : List Packet → List Packet → Type 0
SameFlows packets others =
    (x : ℕ) → x < length packets
    → (packet_at packets x).flow.value ≡ (packet_at others x).flow.value

-- no number of one list is over that of the other, where all earlier ones are the same
number-least : (packets others : List Packet) → length packets ≡ length others
    → AreNumbered packets → AreNumbered others → SameFlows packets others → (x : ℕ)
    → x < length packets
    → ((y : ℕ) → y < x → (packet_at packets y).flow_number ≡ (packet_at others y).flow_number)
    → (packet_at packets x).flow_number ≤ (packet_at others x).flow_number
number-least packets others many numbered other flows x within earlier =
    let n : ℕ = (packet_at packets x).flow_number in
    let m : ℕ = (packet_at others x).flow_number in
    elim (cases_lt m n) [
      | inr le ↦ le
      | inl over ↦ (
          let before = numbered.first x m within over in
          let y : ℕ = before.0 in
          let inside : y < length packets = omega (arith, before.1) in
          let there : y < length others = omega (arith, before.1) in
          let here : x < length others = omega arith in
          let equal : (packet_at others y).flow_number ≡ m = sym (earlier y before.1) ∙ before.2 in
          let flow : (packet_at packets y).flow.value ≡ (packet_at packets x).flow.value =
          flows y inside ∙ other.apart y x there here equal ∙ sym (flows x within) in
          let same : (packet_at packets y).flow_number ≡ n = numbered.same y x inside within flow in
          omega (arith, before.2, same))
    ]

same-numbers : (packets others : List Packet) → length packets ≡ length others
    → AreNumbered packets → AreNumbered others → SameFlows packets others
    → (bound x : ℕ) → x < bound → x < length packets
    → (packet_at packets x).flow_number ≡ (packet_at others x).flow_number
same-numbers packets others many numbered other flows zero x lt within = omega arith
same-numbers packets others many numbered other flows (suc bound) x lt within =
    let earlier : (y : ℕ) → y < x
    → (packet_at packets y).flow_number ≡ (packet_at others y).flow_number =
    λ y before. same-numbers packets others many numbered other flows bound y (omega arith)
    (omega arith) in
    let later : (y : ℕ) → y < x
    → (packet_at others y).flow_number ≡ (packet_at packets y).flow_number =
    λ y before. sym (earlier y before) in
    let le = number-least packets others many numbered other flows x within earlier in
    let ge = number-least others packets (sym many) other numbered
    (λ y inside. sym (flows y (omega arith))) x (omega arith) later in
    omega (arith, le, ge)

-- there is a record at each place
record-at : (records : List PcapRecord) (x : ℕ) → x < length records
    → (from : PcapRecord) × (slice_get records x ≡ Some from)
record-at [] x lt = absurd (omega arith)
record-at (from ∷ rest) zero lt = (from, refl)
record-at (from ∷ rest) (suc x) lt = record-at rest x (omega arith)

abbrev packet_of : Flow → Option ℕ → ℕ → ℕ → Packet
packet_of flow hash len number = record {
  flow = flow_shown flow;
  hash = hash;
  len = len;
  flow_number = number;
}

same-packet : (key kinds : ℕ) (bytes : List ℕ) (from : PcapRecord) (p q : Packet)
    → IsOfRecord key kinds bytes from p → IsOfRecord key kinds bytes from q
    → p.flow_number ≡ q.flow_number → p ≡ q
same-packet key kinds bytes from p q a b number =
    let flow : p.flow.value ≡ q.flow.value = a.flow ∙ sym b.flow in
    let hash : p.hash ≡ q.hash = a.hash ∙ ap (λ f. hash_of_flow key f kinds) flow ∙ sym b.hash in
    let len : p.len ≡ q.len = a.len ∙ sym b.len in
    ap (λ f. packet_of f p.hash p.len p.flow_number) flow
    ∙ ap (λ h. packet_of q.flow.value h p.len p.flow_number) hash
    ∙ ap (λ n. packet_of q.flow.value q.hash n p.flow_number) len
    ∙ ap (λ n. packet_of q.flow.value q.hash q.len n) number

pub packets_are_one : (key kinds : ℕ) (bytes : List ℕ) (records : List PcapRecord)
    (packets others : List Packet)
    → ArePackets key kinds bytes records packets → ArePackets key kinds bytes records others
    → packets ≡ others
packets_are_one key kinds bytes records packets others a b =
    let many : length packets ≡ length others = a.many ∙ sym b.many in
    let flows : SameFlows packets others =
    λ x lt. (
    let at = record-at records x (omega (arith, a.many)) in
    (a.each x at.0 at.1).flow ∙ sym (b.each x at.0 at.1).flow) in
    same_lists packets others many
    (λ x d lt. (
    let at = record-at records x (omega (arith, a.many)) in
    let number = same-numbers packets others many a.numbered b.numbered flows (suc x) x
    (omega arith) lt in
    let same : packet_at packets x ≡ packet_at others x =
    same-packet key kinds bytes at.0 _ _ (a.each x at.0 at.1) (b.each x at.0 at.1) number in
    get_or_default packets x d no_packet lt ∙ same ∙ get_or_default others x no_packet d
    (omega arith)))

pub packets_are_of_flows : (key kinds : ℕ) (bytes : List ℕ) (records : List PcapRecord)
    (packets : List Packet)
    → ArePackets key kinds bytes records packets → AreOfFlows packets
packets_are_of_flows key kinds bytes records packets a =
    record {
      below = λ x lt. (
          let least = number-below packets a.numbered (suc x) x (omega arith) lt in
          omega (arith, least));
      one_hash = λ x y lt within same. (
          let at = record-at records x (omega (arith, a.many)) in
          let there = record-at records y (omega (arith, a.many)) in
          (a.each x at.0 at.1).hash
          ∙ ap (λ f. hash_of_flow key f kinds) (a.numbered.apart x y lt within same)
          ∙ sym (a.each y there.0 there.1).hash);
    }
