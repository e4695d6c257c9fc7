-- A capture has no more packets than a replay takes.
use Rattle.std.proofs.Common.{◌≡◌, ◌≤◌, ℕ, ◌+◌, List, [], ◌∷◌, ◌++◌, length, inl, inr, subst, sym}
use Rattle.std.proofs.Common.{length-append, arith}
use Rattle.pcap_reader.specs.declared.capture.Capture.{Capture}
use Rattle.pcap_reader.specs.declared.record.PcapRecord.{PcapRecord}
use Rattle.pcapng_reader.proofs.Placed.{PacketFits, placed}
use Rattle.pcapng_reader.specs.Captures.{End, Reads, file_start, no_section, packets_in, packets_of}
use Rattle.pcapng_reader.specs.Captures.{place_behind, section_behind}
use Rattle.pcapng_reader.specs.declared.block.Block.{Block}
use Rattle.pcapng_reader.specs.declared.content.Content.{Content}
use Rattle.pcapng_reader.specs.declared.content.Content.TheVariants as content
use Rattle.pcapng_reader.specs.declared.place.Place.{Place}
use Rattle.pcapng_reader.specs.declared.section.Section.{Section}
use Rattle.steer_top.specs.Captures.{HasAnyCapture}

-- the packets of a block that fits are not too many
few_more : (place : Place) (len : ℕ) (c : Content) → place.packets ≤ 262144 → PacketFits place len c
    → place.packets + length (packets_in c) ≤ 262144
few_more place len (content.Section big) few fits = omega (arith, few)
few_more place len (content.Interface i) few fits = omega (arith, few)
few_more place len (content.Packet r) few fits = omega (arith, fits.0)
few_more place len content.Other few fits = omega (arith, few)

few_blocks : (section : Section) (place : Place) (bytes : List ℕ) (blocks : List Block) (end : End)
    → place.packets ≤ 262144 → Reads section place bytes blocks end
    → place.packets + length (packets_of blocks) ≤ 262144
few_blocks section place bytes [] end few reads = omega (arith, few)
few_blocks section place bytes (b ∷ bs) end few (some, is, rest) =
    let fits = (placed section place bytes b is).packet in
    let more : place.packets + length (packets_in b.content) ≤ 262144 =
    few_more place b.len b.content few fits in
    let all : (place.packets + length (packets_in b.content)) + length (packets_of bs) ≤ 262144 =
    few_blocks (section_behind section b.content) (place_behind place b) _ bs end more rest in
    let joined : length (packets_in b.content ++ packets_of bs)
    ≡ length (packets_in b.content) + length (packets_of bs) =
    length-append (packets_in b.content) (packets_of bs) in
    omega (arith, all, joined)

pub few-records : (bytes : List ℕ) (capture : Capture) → HasAnyCapture bytes capture
    → length capture.records ≤ 262144
few-records bytes capture (inl has) =
    let few : 0 + length (packets_of has.blocks) ≤ 262144 =
    few_blocks no_section file_start bytes has.blocks _ (omega arith) has.read in
    subst (λ (records : List PcapRecord). length records ≤ 262144) (sym has.packets)
    (omega (arith, few))
few-records bytes capture (inr (other, has)) = has.records.few
