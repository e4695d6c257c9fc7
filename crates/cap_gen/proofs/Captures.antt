-- The capture of the packets of a seed.
use Rattle.std.proofs.Common.{◌≡◌, ◌≤◌, ◌<◌, ℕ, ◌+◌, ◌%◌, List, [], ◌∷◌, ◌++◌, All, sym, ap}
use Rattle.std.proofs.Common.{◌∙◌, arith, length, map, subst}
use Rattle.std.proofs.lemmas.List.FromFn.{get_or-map-range_with_len, length-map-range_with_len}
use Rattle.std.proofs.lemmas.List.FromFn.{map-range_with_len_more}
use Rattle.std.proofs.lemmas.List.{length-map, map-append}
use Rattle.pcap_reader.specs.Captures as captures
use Rattle.pcap_reader.specs.Laws.{GrowsByPacket, ReadsBack}
use Rattle.pcap_reader.specs.Writing.{CanBeWritten, packet_bytes, capture_bytes, capture_of}
use Rattle.plan_reader.specs.Seeds.{seeded_word}
use Rattle.cap_gen.specs.Packets.{frames_of, generated_frame, packet_of, packets_of}

-- the bytes of i packets and of the next one
pub one_more : (seed flows i word : ℕ) (frame old new : List ℕ) → GrowsByPacket
    → old ≡ capture_bytes (packets_of seed flows i)
    → word ≡ seeded_word seed i → frame ≡ generated_frame (word % flows) → new ≡ old ++ packet_bytes
    (record { sec = i; frac = 0; frame = frame })
    → new ≡ capture_bytes (packets_of seed flows (i + 1))
one_more seed flows i word frame old new grows before is_word is_frame after =
    let same : frame ≡ generated_frame (seeded_word seed i % flows) =
    is_frame ∙ ap (λ w. generated_frame (w % flows)) is_word in
    after
    ∙ ap (λ bytes. bytes ++ packet_bytes (record { sec = i; frac = 0; frame = frame })) before
    ∙ ap (λ f. capture_bytes (packets_of seed flows i) ++ packet_bytes
    (record { sec = i; frac = 0; frame = f })) same
    ∙ sym (grows (packets_of seed flows i) (packet_of seed flows i))
    ∙ ap capture_bytes (sym (map-range_with_len_more (packet_of seed flows) 0 i i (omega arith)))

can_be_written : (seed flows i : ℕ) → i < 262144 → CanBeWritten (packet_of seed flows i)
unfolding generated_frame
can_be_written seed flows i few = record {
  sec = omega (arith, few);
  frac = omega arith;
  frame = omega arith;
}

all_can_be_written : (seed flows n : ℕ) → n ≤ 262144 → All CanBeWritten (packets_of seed flows n)
all_can_be_written seed flows n few = λ i d inside.
    let below : i < n =
    omega (arith, inside, length-map-range_with_len (packet_of seed flows) 0 n) in
    rw (get_or-map-range_with_len (packet_of seed flows) 0 n i i d below (omega arith))
    (can_be_written seed flows i (omega (arith, below, few)))

-- those bytes have the capture of the packets
pub has_capture : (seed flows n : ℕ) (bytes : List ℕ) → ReadsBack → n ≤ 262144
    → bytes ≡ capture_bytes (packets_of seed flows n)
    → captures.HasCapture bytes (capture_of (packets_of seed flows n))
has_capture seed flows n bytes reads few same =
    subst (λ b. captures.HasCapture b (capture_of (packets_of seed flows n))) (sym same)
    (reads (packets_of seed flows n) (all_can_be_written seed flows n few)
    (rw (length-map-range_with_len (packet_of seed flows) 0 n) few))

-- as many frames as packets
pub frames-many : (seed flows n : ℕ) → length (frames_of seed flows n) ≡ n
frames-many seed flows n =
    length-map (packets_of seed flows n) (λ packet. packet.frame)
    ∙ length-map-range_with_len (packet_of seed flows) 0 n

-- the frames of i packets and of the next one
pub frames-more : (seed flows i word flow : ℕ) (frame : List ℕ) → word ≡ seeded_word seed i
    → flow ≡ word % flows → frame ≡ generated_frame flow
    → frames_of seed flows (i + 1) ≡ frames_of seed flows i ++ frame ∷ []
frames-more seed flows i word flow frame is_word is_flow is_frame =
    ap (map (λ packet. packet.frame))
    (map-range_with_len_more (packet_of seed flows) 0 i i (omega arith))
    ∙ map-append (λ packet. packet.frame) (packets_of seed flows i) (packet_of seed flows i ∷ [])
    ∙ ap (λ f. frames_of seed flows i ++ f ∷ [])
    (sym (is_frame ∙ ap generated_frame (is_flow ∙ ap (λ w. w % flows) is_word)))
