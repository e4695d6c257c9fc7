-- What a walker has passed: the blocks of a file one after another, with their frames.
use Rattle.std.proofs.Common.{◌≡◌, ◌≤◌, ◌<◌, inl, inr, ℕ, ◌+◌, ◌-◌, true, false, ltb, List, [], ◌∷◌}
use Rattle.std.proofs.Common.{◌++◌, length, take, drop, map, Option, Some, None, Ok, Err, All}
use Rattle.std.proofs.Common.{length-take, length-drop, length-append, append-nil, append_assoc}
use Rattle.std.proofs.Common.{refl, sym, ap, subst, ◌∙◌, arith}
use Rattle.std.proofs.lemmas.Bool.{lt-ltb, cases_lt}
use Rattle.std.proofs.lemmas.List.{take-append-drop, take-append-le, drop-append-le, map-append}
use Rattle.std.proofs.lemmas.List.{length-take-le}
use Rattle.std.proofs.lemmas.List.Elements.{All-nil, All-cons, All-append, All-head, All-tail}
use Rattle.std.proofs.Math.Seq.{drop-append-add}
use Rattle.pcap_reader.specs.declared.record.PcapRecord.{PcapRecord}
use Rattle.pcap_reader.specs.Captures.{frame_of, FrameIsWithin}
use Rattle.pcapng_reader.specs.declared.section.Section.{Section}
use Rattle.pcapng_reader.specs.declared.place.Place.{Place}
use Rattle.pcapng_reader.specs.declared.block.Block.{Block}
use Rattle.pcapng_reader.specs.declared.content.Content.{Content}
use Rattle.pcapng_reader.specs.declared.content.Content.TheVariants as content
use Rattle.pcapng_reader.specs.declared.fault.NgFault.{NgFault}
use Rattle.pcapng_reader.specs.declared.walker.NgWalker.{NgWalker}
use Rattle.pcapng_reader.specs.Blocks.{block_at}
use Rattle.pcapng_reader.specs.Captures.{packets_in, End, EndsWith, Reads, BeginsNg, packets_of}
use Rattle.pcapng_reader.specs.Captures.{HasNgFault, no_section, file_start}
use Rattle.pcapng_reader.specs.Readers.{PassesBlock, next_in, next_of}
use Rattle.pcapng_reader.specs.Walkers.{Spot, first_spot, spot_behind, Passes, spot_of, Passed}
use Rattle.pcapng_reader.specs.Walkers.{BeginsMore, Moves}
use Rattle.pcapng_reader.specs.Walkers.{Finds, GoesOn, Captures, PassesMore, FillsBytes}
use Rattle.pcapng_reader.specs.Walkers.{CapturesAll, CapturesCut}
use Rattle.pcapng_reader.proofs.Placed.{PacketFits, placed}
use Rattle.pcapng_reader.proofs.Walk.{order-push, packets-push, few_more}
use Rattle.pcapng_reader.proofs.Longer.{found_more, fault_more}

-- with more bytes behind
passes_more : (spot : Spot) (bytes : List ℕ) (bs : List Block) (last : Spot) (rest more : List ℕ)
    → Passes spot bytes bs last rest → Passes spot (bytes ++ more) bs last (rest ++ more)
passes_more spot bytes [] last rest more h = (ap (λ l. l ++ more) h.0, h.1)
passes_more spot bytes (b ∷ bs) last rest more h =
    let p = placed spot.section spot.place bytes b h.1 in
    let next = passes_more (spot_behind spot b) (drop b.len bytes) bs last rest more h.2 in
    let P : List ℕ → Type 0 = λ l. Passes (spot_behind spot b) l bs last (rest ++ more) in (
      omega (arith, h.0, length-append bytes more),
      found_more spot.section spot.place bytes more b h.1,
      subst P (sym (drop-append-le b.len bytes more p.whole)) next,
    )

-- one block more
passes_push : (spot : Spot) (bytes : List ℕ) (bs : List Block) (last : Spot) (rest : List ℕ)
    (b : Block) → Passes spot bytes bs last rest → 0 < length rest
    → block_at last.section last.place rest ≡ Ok (Some b)
    → Passes spot bytes (bs ++ b ∷ []) (spot_behind last b) (drop b.len rest)
passes_push spot bytes [] last rest b h some is = rw (h.0, h.1) (some, is, (refl, refl))
passes_push spot bytes (x ∷ bs) last rest b h some is =
    (h.0, h.1, passes_push (spot_behind spot x) (drop x.len bytes) bs last rest b h.2 some is)

-- and the end of the file
passes_reads : (spot : Spot) (bytes : List ℕ) (bs : List Block) (last : Spot) (rest : List ℕ)
    (end : End) → Passes spot bytes bs last rest → EndsWith last.section last.place rest end
    → Reads spot.section spot.place bytes bs end
passes_reads spot bytes [] last rest end h ends = rw (h.0, h.1) ends
passes_reads spot bytes (b ∷ bs) last rest end h ends =
    (h.0, h.1, passes_reads (spot_behind spot b) (drop b.len bytes) bs last rest end h.2 ends)

-- what the numbers of the places tell
record Passage (spot : Spot) (bytes : List ℕ) (bs : List Block) (last : Spot) (rest : List ℕ)
    : Type 0 where
  pub front : List ℕ
  pub joined : bytes ≡ front ++ rest
  pub along : last.place.start ≡ spot.place.start + length front
  pub narrow : last.place.block ≤ spot.place.block + length front
  pub many : last.place.block ≡ spot.place.block + length bs
  pub counted : last.place.packets ≡ spot.place.packets + length (packets_of bs)

passage : (spot : Spot) (bytes : List ℕ) (bs : List Block) (last : Spot) (rest : List ℕ)
    → Passes spot bytes bs last rest → Passage spot bytes bs last rest
passage spot bytes [] last rest h =
    let start = ap (λ (s : Spot). s.place.start) h.1 in
    let block = ap (λ (s : Spot). s.place.block) h.1 in
    let packets = ap (λ (s : Spot). s.place.packets) h.1 in
    record {
      front = [];
      joined = h.0;
      along = omega (arith, start);
      narrow = omega (arith, block);
      many = omega (arith, block);
      counted = omega (arith, packets);
    }
passage spot bytes (b ∷ bs) last rest h =
    let p = placed spot.section spot.place bytes b h.1 in
    let next = passage (spot_behind spot b) (drop b.len bytes) bs last rest h.2 in
    let first = take b.len bytes in
    let size = length-append first next.front in
    let len = length-take-le b.len bytes p.whole in
    record {
      front = first ++ next.front;
      joined = sym (take-append-drop b.len bytes) ∙ ap (λ l. first ++ l) next.joined
          ∙ sym (append_assoc first next.front rest);
      along = omega (arith, next.along, size, len);
      narrow = omega (arith, next.narrow, size, len, p.least);
      many = omega (arith, next.many);
      counted = omega (
        arith,
        next.counted,
        length-append (packets_in b.content) (packets_of bs),
      );
    }

-- the frames lie within the file
within_one : (file : List ℕ) (place : Place) (len : ℕ) (c : Content)
    → place.start + len ≤ length file → PacketFits place len c
    → All (FrameIsWithin file) (packets_in c)
within_one file place len (content.Section big) inside fits = All-nil (FrameIsWithin file)
within_one file place len (content.Interface i) inside fits = All-nil (FrameIsWithin file)
within_one file place len (content.Packet r) inside fits =
    All-cons (FrameIsWithin file) r [] (omega (arith, fits.1, inside))
    (All-nil (FrameIsWithin file))
within_one file place len content.Other inside fits = All-nil (FrameIsWithin file)

passes_within : (file : List ℕ) (spot : Spot) (bytes : List ℕ) (bs : List Block) (last : Spot)
    (rest : List ℕ) → spot.place.start + length bytes ≤ length file
    → Passes spot bytes bs last rest → All (FrameIsWithin file) (packets_of bs)
passes_within file spot bytes [] last rest inside h = All-nil (FrameIsWithin file)
passes_within file spot bytes (b ∷ bs) last rest inside h =
    let p = placed spot.section spot.place bytes b h.1 in
    All-append (FrameIsWithin file) (packets_in b.content) (packets_of bs)
    (within_one file spot.place b.len b.content (omega (arith, inside, p.whole)) p.packet)
    (passes_within file (spot_behind spot b) (drop b.len bytes) bs last rest
    (omega (arith, inside, p.whole, length-drop b.len bytes)) h.2)

-- frames stay as they are
frames_more : (bytes more : List ℕ) (rs : List PcapRecord) → All (FrameIsWithin bytes) rs
    → map (frame_of (bytes ++ more)) rs ≡ map (frame_of bytes) rs
frames_more bytes more [] all = refl
frames_more bytes more (r ∷ rs) all =
    let fits : r.start + r.len ≤ length bytes = All-head (FrameIsWithin bytes) r rs all in
    let first : frame_of (bytes ++ more) r ≡ frame_of bytes r =
    ap (take r.len) (drop-append-le r.start bytes more (omega (arith, fits)))
    ∙ take-append-le r.len (drop r.start bytes) more
    (omega (arith, fits, length-drop r.start bytes)) in
    ap (λ f. f ∷ map (frame_of (bytes ++ more)) rs) first
    ∙ ap (λ fs. frame_of bytes r ∷ fs)
    (frames_more bytes more rs (All-tail (FrameIsWithin bytes) r rs all))

pub passed_more : PassesMore
passed_more w bytes more frames rest h =
    let inside = passes_within bytes first_spot bytes h.blocks (spot_of w) rest (omega arith)
    h.passes in
    record {
      blocks = h.blocks;
      passes = passes_more first_spot bytes h.blocks (spot_of w) rest more h.passes;
      order = h.order;
      packets = h.packets ∙ sym (frames_more bytes more (packets_of h.blocks) inside);
      few = h.few;
    }

pub fills_bytes : FillsBytes
fills_bytes w bytes frames rest h =
    let p = passage first_spot bytes h.blocks (spot_of w) rest h.passes in
    let here : w.place.start ≡ length p.front + 0 = omega (arith, p.along) in
    record {
      rest_is = sym (ap (λ l. drop w.place.start l) p.joined ∙ ap (λ n. drop n (p.front ++ rest))
          here
          ∙ drop-append-add p.front rest 0);
      size = omega (arith, p.along, ap length p.joined, length-append p.front rest);
      narrow = omega (arith, p.along, p.narrow);
    }

-- the frame of a packet that stands at the front of the rest
frame_here : (bytes front rest : List ℕ) (r : PcapRecord) (start : ℕ) → bytes ≡ front ++ rest
    → start ≡ length front → start ≤ r.start
    → frame_of bytes r ≡ take r.len (drop (r.start - start) rest)
frame_here bytes front rest r start joined here behind =
    let at : r.start ≡ length front + (r.start - start) = omega (arith, here, behind) in
    ap (λ l. take r.len (drop r.start l)) joined
    ∙ ap (λ n. take r.len (drop n (front ++ rest))) at
    ∙ ap (take r.len) (drop-append-add front rest (r.start - start))

-- a walker behind one more block
passed_push : (old new : NgWalker) (bytes : List ℕ) (frames : List (List ℕ)) (window : List ℕ)
    (b : Block) → Passed old bytes frames window
    → block_at old.section old.place window ≡ Ok (Some b) → PassesBlock old b new
    → Passed new bytes (frames ++ map (frame_of bytes) (packets_in b.content)) (drop b.len window)
passed_push old new bytes frames window b h is past =
    let p = placed old.section old.place window b is in
    let q = passage first_spot bytes h.blocks (spot_of old) window h.passes in
    let same : spot_of new ≡ spot_behind (spot_of old) b = rw (past.section, past.place) refl in
    let P : Spot → Type 0 = λ s. Passes first_spot bytes (h.blocks ++ b ∷ []) s
    (drop b.len window) in
    let more = packets-push h.blocks b in
    let few = few_more old.place b.len b.content (omega (arith, q.counted, h.few)) p.packet in
    record {
      blocks = h.blocks ++ b ∷ [];
      passes = subst P (sym same) (passes_push first_spot bytes h.blocks (spot_of old) window b
          h.passes (omega (arith, p.least, p.whole)) is);
      order = past.order ∙ order-push h.blocks b old.place.block old.big (omega (arith, q.many))
          h.order;
      packets = ap (λ l. l ++ map (frame_of bytes) (packets_in b.content)) h.packets
          ∙ sym (map-append (frame_of bytes) (packets_of h.blocks) (packets_in b.content))
          ∙ ap (map (frame_of bytes)) (sym more);
      few = omega (
        arith,
        few,
        q.counted,
        ap length more,
        length-append (packets_of h.blocks) (packets_in b.content),
      );
    }

-- what the walker says of that block
goes_in : (old new : NgWalker) (bytes : List ℕ) (frames : List (List ℕ)) (front window : List ℕ)
    (size : ℕ) (c : Content) → bytes ≡ front ++ window → old.place.start ≡ length front
    → PacketFits old.place size c
    → Passed new bytes (frames ++ map (frame_of bytes) (packets_in c)) (drop size window)
    → GoesOn new bytes frames window (next_in old.place size c)
goes_in old new bytes frames front window size (content.Section big) joined here fits h =
    subst (λ f. Passed new bytes f (drop size window)) (append-nil frames) h
goes_in old new bytes frames front window size (content.Interface i) joined here fits h =
    subst (λ f. Passed new bytes f (drop size window)) (append-nil frames) h
goes_in old new bytes frames front window size (content.Packet r) joined here fits h =
    subst (λ f. Passed new bytes (frames ++ f ∷ []) (drop size window))
    (frame_here bytes front window r old.place.start joined here fits.2) h
goes_in old new bytes frames front window size content.Other joined here fits h =
    subst (λ f. Passed new bytes f (drop size window)) (append-nil frames) h

pub goes_on : (old new : NgWalker) (bytes : List ℕ) (frames : List (List ℕ)) (window : List ℕ)
    (b : Block) → block_at old.section old.place window ≡ Ok (Some b) → PassesBlock old b new
    → Passed old bytes frames window
    → GoesOn new bytes frames window (next_of old.place b)
goes_on old new bytes frames window b is past h =
    let p = placed old.section old.place window b is in
    let q = passage first_spot bytes h.blocks (spot_of old) window h.passes in
    goes_in old new bytes frames q.front window b.len b.content q.joined
    (omega (arith, q.along)) p.packet (passed_push old new bytes frames window b h is past)

finds_in : (old new : NgWalker) (window : List ℕ) (size : ℕ) (c : Content)
    → Moves old new window size → PacketFits old.place size c
    → Finds old new window (next_in old.place size c)
finds_in old new window size (content.Section big) moves fits = moves
finds_in old new window size (content.Interface i) moves fits = moves
finds_in old new window size (content.Packet r) moves fits =
    (moves, omega (arith, fits.1, fits.2), fits.3)
finds_in old new window size content.Other moves fits = moves

pub finds : (old new : NgWalker) (window : List ℕ) (b : Block)
    → block_at old.section old.place window ≡ Ok (Some b) → PassesBlock old b new
    → Finds old new window (next_of old.place b)
finds old new window b is past =
    let p = placed old.section old.place window b is in
    let moves : Moves old new window b.len = record {
      some = omega (arith, p.least);
      within = p.whole;
      start = ap (λ (q : Place). q.start) past.place;
      count = ap (λ (q : Place). q.block) past.place;
    } in
    finds_in old new window b.len b.content moves p.packet

-- a faulty block has some bytes
fault_some : (section : Section) (place : Place) (rest : List ℕ) (e : NgFault)
    → block_at section place rest ≡ Err e → 0 < length rest
unfolding block_at
fault_some section place rest e is = elim (cases_lt (length rest) 12) [
  | inl few ↦
      let short : ltb (length rest) 12 ≡ true = lt-ltb (length rest) 12 few in
      absurd (let f = rw short at is in cc)
  | inr begun ↦ omega (arith, begun)
]

pub begins_more : BeginsMore
begins_more bytes more begins =
    take-append-le 4 bytes more (omega (arith, ap length begins, length-take 4 bytes)) ∙ begins

pub faulty : (w : NgWalker) (bytes more : List ℕ) (frames : List (List ℕ)) (rest : List ℕ)
    (e : NgFault) → block_at w.section w.place rest ≡ Err e → Passed w bytes frames rest
    → BeginsNg bytes → HasNgFault (bytes ++ more) e
faulty w bytes more frames rest e is h begins =
    let some = fault_some w.section w.place rest e is in
    record {
      begins = begins_more bytes more begins;
      blocks = h.blocks;
      read = passes_reads first_spot (bytes ++ more) h.blocks (spot_of w) (rest ++ more) (Err e)
          (passes_more first_spot bytes h.blocks (spot_of w) rest more h.passes) (
            omega (arith, some, length-append rest more),
            fault_more w.section w.place rest more e is,
          );
    }

-- the end of the file
ended : (w : NgWalker) (bytes : List ℕ) (frames : List (List ℕ)) (rest : List ℕ) (cut : Option ℕ)
    → BeginsNg bytes → Passed w bytes frames rest → EndsWith w.section w.place rest (Ok cut)
    → Captures w bytes frames cut
ended w bytes frames rest cut begins h ends = record {
  capture = record { big = w.big; nano = false; records = packets_of h.blocks; cut = cut };
  has = record {
    begins = begins;
    blocks = h.blocks;
    read = passes_reads first_spot bytes h.blocks (spot_of w) rest (Ok cut) h.passes ends;
    packets = refl;
    order = h.order;
    unit = refl;
  };
  order = refl;
  frames_are = h.packets;
  few = h.few;
  end = refl;
}

pub captures_all : CapturesAll
captures_all w bytes frames begins h = ended w bytes frames [] None begins h refl

pub captures_cut : CapturesCut
captures_cut w bytes frames rest begins h some is =
    ended w bytes frames rest (Some (length rest)) begins h (some, is, refl)

pub passed_nothing : (w : NgWalker) → w.section ≡ no_section → w.place ≡ file_start
    → w.big ≡ false → (bytes : List ℕ) → Passed w bytes [] bytes
passed_nothing w section place order bytes = record {
  blocks = [];
  passes = (refl, rw (section, place) refl);
  order = order;
  packets = refl;
  few = omega arith;
}
