-- What is written is read back.
use Rattle.std.proofs.Common.{◌≡◌, ◌≤◌, ◌<◌, ℕ, ◌+◌, ◌-◌, ◌%◌, ◌^◌, Bool, true, false, leb, ltb}
use Rattle.std.proofs.Common.{eqb, List, [], ◌∷◌, ◌++◌, length, take, drop, map, All, replicate}
use Rattle.std.proofs.Common.{Some, None, Ok, append_assoc, length-append, refl, sym, ap, subst}
use Rattle.std.proofs.Common.{◌∙◌, arith}
use Rattle.std.proofs.lemmas.List.{take_at, drop_at, length-replicate}
use Rattle.std.proofs.lemmas.List.Elements.{All-head, All-tail}
use Rattle.std.proofs.lemmas.Bool.{le-ltb, le-leb, lt-leb}
use Rattle.std.proofs.lemmas.Bool.Decides.{nat_tests}
use Rattle.std.specs.List.{flat_map}
use Rattle.byteorder.specs.Endian.{little_number, little_bytes}
use Rattle.byteorder.specs.Numbers.{little_number-reads_back}
use Rattle.pcap_reader.specs.declared.record.PcapRecord.{PcapRecord}
use Rattle.pcap_reader.specs.Captures.{frame_of}
use Rattle.pcapng_reader.specs.declared.section.Section.{Section}
use Rattle.pcapng_reader.specs.declared.place.Place.{Place}
use Rattle.pcapng_reader.specs.declared.block.Block.{Block}
use Rattle.pcapng_reader.specs.declared.content.Content.{Content}
use Rattle.pcapng_reader.specs.declared.content.Content.TheVariants as content
use Rattle.pcapng_reader.specs.Numbers.{u16_at, u32_at}
use Rattle.pcapng_reader.specs.Contents.{is_len, padded, ethernet_of, framed, enhanced, content_at}
use Rattle.pcapng_reader.specs.Blocks.{kind_of, order_of, block_in, block_at}
use Rattle.pcapng_reader.specs.Captures.{no_section, file_start, place_behind, Reads, packets_of}
use Rattle.pcapng_reader.specs.Writing.{section_bytes, enhanced_len, enhanced_header, enhanced_tail}
use Rattle.pcapng_reader.specs.Writing.{enhanced_bytes, ng_records_from}
use Rattle.pcapng_reader.specs.Laws.{ReadsNgBack, KeepsNgFrames}

-- the section and the interface that are written
abbrev written_section : Section
written_section = record { big = false; interfaces = record { link = 1; snap = 262144 } ∷ [] }

-- a padded length
pub padded_bounds : (len : ℕ) → (len ≤ padded len) × (padded len ≤ len + 3) × (padded len % 4 ≡ 0)
padded_bounds len = (omega arith, omega arith, omega arith)

length-enhanced_header : (len : ℕ) → length (enhanced_header len) ≡ 28
unfolding enhanced_header
length-enhanced_header len = refl

length-enhanced_tail : (len : ℕ) → length (enhanced_tail len) ≡ padded len - len + 4
length-enhanced_tail len = omega (
  arith,
  length-append (replicate (padded len - len) 0)
      (little_bytes 4 (enhanced_len len)),
  length-replicate {A = ℕ} (padded len - len) 0,
)

-- the fields of the block, which begins some bytes
fields : (len : ℕ) (more : List ℕ) → len ≤ 262144
    → (u32_at false 0 (enhanced_header len ++ more) ≡ 6)
    × (u32_at false 4 (enhanced_header len ++ more) ≡ enhanced_len len)
    × (u32_at false 8 (enhanced_header len ++ more) ≡ 0)
    × (u32_at false 12 (enhanced_header len ++ more) ≡ 0)
    × (u32_at false 16 (enhanced_header len ++ more) ≡ 0)
    × (u32_at false 20 (enhanced_header len ++ more) ≡ len)
    × (u32_at false 24 (enhanced_header len ++ more) ≡ len)
unfolding enhanced_header u32_at
fields len more few =
    let lens = little_bytes 4 len in
    let total_fits : enhanced_len len < 256 ^ 4 = omega (arith, padded_bounds len) in
    let len_fits : len < 256 ^ 4 = omega (arith, few) in (
      refl,
      little_number-reads_back 4 (enhanced_len len) (replicate 12 0 ++ (lens ++ (lens ++ more)))
          total_fits,
      refl,
      refl,
      refl,
      little_number-reads_back 4 len (lens ++ more) len_fits,
      little_number-reads_back 4 len more len_fits,
    )

-- a block whose length, order, tail and content are these
pub block_is : (section : Section) (place : Place) (rest : List ℕ) (big : Bool) (len kind : ℕ)
    (c : Content) → 12 ≤ length rest → len ≤ length rest
    → order_of section rest ≡ Some big → u32_at big 4 rest ≡ len → kind_of section rest ≡ kind
    → is_len kind len ≡ true
    → u32_at big (len - 4) rest ≡ len → content_at section place kind big len rest ≡ Ok c
    → block_at section place rest ≡ Ok (Some (record { len = len; content = c }))
unfolding block_at block_in
block_is section place rest big len kind c begun whole order total is_kind sized tail told =
    let a : ltb (length rest) 12 ≡ false = le-ltb (length rest) 12 begun in
    let b : ltb (length rest) len ≡ false = le-ltb (length rest) len whole in
    let d : eqb len len ≡ true = grind (arith, nat_tests) in
    rw (a, order, total, is_kind, sized, b, tail, d, told) refl

-- the frame of a packet is not too long, and fits its block
framed_is : (place : Place) (len : ℕ) (r : PcapRecord) → len ≤ 262144 → r.len ≡ len → framed place
    (enhanced_len len) 28 r ≡ Ok (content.Packet r)
unfolding framed
framed_is place len r few is =
    let a : ltb 262144 r.len ≡ false = le-ltb 262144 r.len (omega (arith, is)) in
    let b : ltb (enhanced_len len) (28 + padded r.len + 4) ≡ false =
    le-ltb (enhanced_len len) (28 + padded r.len + 4) (rw is (omega arith)) in
    rw (a, b) refl

written_interface : (place : Place) → place.packets < 262144
    → ethernet_of written_section place 0 ≡ Ok (record { link = 1; snap = 262144 })
unfolding ethernet_of
written_interface place few = let a : leb 262144 place.packets ≡ false =
    lt-leb 262144 place.packets few in rw a refl

-- the record of a frame whose block begins at this place of the file
abbrev record_at : ℕ → ℕ → PcapRecord
record_at start len = record { sec = 0; frac = 0; start = start + 28; len = len; orig = len }

enhanced_is : (place : Place) (len : ℕ) (more : List ℕ) → len ≤ 262144 → place.packets < 262144
    → enhanced written_section place (enhanced_len len) (enhanced_header len ++ more) ≡ Ok
    (content.Packet (record_at place.start len))
unfolding enhanced
enhanced_is place len more few room =
    let (kind, total, id, sec, frac, captured, original) = fields len more few in
    let interface = written_interface place room in
    rw (id, sec, frac, captured, original, interface)
    (framed_is place len (record_at place.start len) few refl)

length-block : (f : List ℕ) → length (enhanced_bytes f) ≡ enhanced_len (length f)
length-block f =
    let len = length f in
    omega (
      arith,
      length-append (enhanced_header len ++ f) (enhanced_tail len),
      length-append
          (enhanced_header len) f,
      length-enhanced_header len,
      length-enhanced_tail len,
      padded_bounds len,
    )

written_order : (bytes : List ℕ) → u32_at false 0 bytes ≡ 6
    → order_of written_section bytes ≡ Some false
unfolding order_of
written_order bytes is = rw is refl

-- the second total length of a written block
written_tail : (f more : List ℕ) → length f ≤ 262144 → u32_at false (enhanced_len (length f) - 4)
    (enhanced_bytes f ++ more) ≡ enhanced_len (length f)
unfolding u32_at
written_tail f more few =
    let len = length f in
    let total = enhanced_len len in
    let zeros : List ℕ = replicate (padded len - len) 0 in
    let front : List ℕ = (enhanced_header len ++ f) ++ zeros in
    let total_fits : total < 256 ^ 4 = omega (arith, padded_bounds len) in
    let size : length front ≡ total - 4 =
    omega (
      arith,
      length-append (enhanced_header len ++ f) zeros,
      length-append (enhanced_header len) f,
      length-enhanced_header len,
      length-replicate {A = ℕ} (padded len - len) 0,
      padded_bounds len,
    ) in
    let pieces : enhanced_bytes f ++ more ≡ front ++ (little_bytes 4 total ++ more) =
    ap (λ l. l ++ more) (sym (append_assoc (enhanced_header len ++ f) zeros (little_bytes 4 total)))
    ∙ append_assoc front (little_bytes 4 total) more in
    ap (λ l. little_number 4 (drop (total - 4) l)) pieces
    ∙ ap (little_number 4) (drop_at front (little_bytes 4 total ++ more) (total - 4) size)
    ∙ little_number-reads_back 4 total more total_fits

-- a written block, and what follows it
abbrev block_of : ℕ → List ℕ → Block
block_of start f = record {
  len = enhanced_len (length f);
  content = content.Packet
      (record_at start (length f));
}

written_sized : (len : ℕ) → is_len 6 (enhanced_len len) ≡ true
written_sized len =
    let p = padded_bounds len in
    let a : eqb (enhanced_len len % 4) 0 ≡ true = let e : enhanced_len len % 4 ≡ 0 =
    omega arith in rw e refl in
    let b : leb 32 (enhanced_len len) ≡ true = le-leb 32 (enhanced_len len) (omega arith) in
    rw (a, b) refl

content_is : (place : Place) (len : ℕ) (bytes : List ℕ) (c : Content)
    → enhanced written_section place len bytes ≡ Ok c
    → content_at written_section place 6 false len bytes ≡ Ok c
unfolding content_at
content_is place len bytes c h = h

written_block : (place : Place) (f more : List ℕ) → length f ≤ 262144 → place.packets < 262144
    → block_at written_section place (enhanced_bytes f ++ more) ≡ Ok (Some (block_of place.start f))
written_block place f more few room =
    let len = length f in
    let behind = f ++ (enhanced_tail len ++ more) in
    let pieces : enhanced_bytes f ++ more ≡ enhanced_header len ++ behind =
    append_assoc (enhanced_header len ++ f) (enhanced_tail len) more ∙ append_assoc
    (enhanced_header len) f (enhanced_tail len ++ more) in
    let size : length (enhanced_bytes f ++ more) ≡ enhanced_len len + length more =
    omega (arith, length-append (enhanced_bytes f) more, length-block f) in
    let field = fields len behind few in
    let kind : u32_at false 0 (enhanced_bytes f ++ more) ≡ 6 = ap (u32_at false 0) pieces
    ∙ field.0 in
    let total : u32_at false 4 (enhanced_bytes f ++ more) ≡ enhanced_len len =
    ap (u32_at false 4) pieces ∙ field.1 in
    let told : enhanced written_section place (enhanced_len len) (enhanced_bytes f ++ more) ≡ Ok
    (content.Packet (record_at place.start len)) =
    ap (enhanced written_section place (enhanced_len len)) pieces
    ∙ enhanced_is place len behind few room in
    block_is written_section place (enhanced_bytes f ++ more) false (enhanced_len len) 6
    (content.Packet (record_at place.start len))
    (omega (arith, size)) (omega (arith, size)) (written_order (enhanced_bytes f ++ more) kind)
    total kind (written_sized len) (written_tail f more few)
    (content_is place (enhanced_len len) (enhanced_bytes f ++ more)
    (content.Packet (record_at place.start len)) told)

-- the blocks of frames that begin at this place of the file
blocks_from : ℕ → List (List ℕ) → List Block
blocks_from start [] = []
blocks_from start (f ∷ fs) = block_of start f ∷ blocks_from (start + enhanced_len (length f)) fs

reads_frames : (place : Place) (frames : List (List ℕ)) → All (λ f. length f ≤ 262144) frames
    → place.packets + length frames ≤ 262144
    → Reads written_section place (flat_map enhanced_bytes frames) (blocks_from place.start frames)
    (Ok None)
unfolding blocks_from
reads_frames place [] fit few = refl
reads_frames place (f ∷ fs) fit few =
    let small : length f ≤ 262144 = All-head (λ g. length g ≤ 262144) f fs fit in
    let more = flat_map enhanced_bytes fs in
    let b = block_of place.start f in
    let rest = reads_frames (place_behind place b) fs (All-tail (λ g. length g ≤ 262144) f fs fit)
    (omega arith) in
    let behind : drop b.len (enhanced_bytes f ++ more) ≡ more =
    drop_at (enhanced_bytes f) more b.len (length-block f) in
    let P : List ℕ → Type 0 = λ l. Reads written_section (place_behind place b) l
    (blocks_from (place.start + enhanced_len (length f)) fs) (Ok None) in (
      omega (arith, length-append (enhanced_bytes f) more, length-block f),
      written_block place f more small (omega arith),
      subst P (sym behind) rest,
    )

packets-blocks_from : (start : ℕ) (frames : List (List ℕ)) → packets_of
    (blocks_from start frames) ≡ ng_records_from start frames
unfolding blocks_from
packets-blocks_from start [] = refl
packets-blocks_from start (f ∷ fs) = ap (λ l. record_at start (length f) ∷ l)
    (packets-blocks_from (start + enhanced_len (length f)) fs)

-- the first two blocks
abbrev interface_bytes : List ℕ
interface_bytes = 1 ∷ 0 ∷ 0 ∷ 0 ∷ 20 ∷ 0 ∷ 0 ∷ 0 ∷ 1 ∷ 0 ∷ 0 ∷ 0 ∷ 0 ∷ 0 ∷ 4 ∷ 0 ∷ 20 ∷ 0 ∷ 0 ∷ 0
    ∷ []

header_block : (more : List ℕ) → block_at no_section file_start (section_bytes ++ more) ≡ Ok
    (Some (record { len = 28; content = content.Section false }))
unfolding section_bytes order_of content_at u32_at u16_at
header_block more =
    let size = length-append section_bytes more in
    block_is no_section file_start (section_bytes ++ more) false 28 0x0a0d0d0a
    (content.Section false) (omega (arith, size)) (omega (arith, size)) refl refl refl refl refl
    refl

interface_block : (place : Place) (more : List ℕ)
    → block_at (record { big = false; interfaces = [] }) place (interface_bytes ++ more)
    ≡ Ok (Some (record {
      len = 20;
      content = content.Interface (record { link = 1; snap = 262144 });
    }))
unfolding order_of content_at u32_at u16_at
interface_block place more =
    let size = length-append interface_bytes more in
    block_is (record { big = false; interfaces = [] }) place (interface_bytes ++ more) false 20 1
    (content.Interface (record { link = 1; snap = 262144 }))
    (omega (arith, size)) (omega (arith, size)) refl refl refl refl refl refl

-- behind the section header stands the interface
behind_header : (more : List ℕ) → drop 28 (section_bytes ++ more) ≡ interface_bytes ++ more
unfolding section_bytes
behind_header more = refl

begins_so : (more : List ℕ) → take 4 (section_bytes ++ more) ≡ 0x0a ∷ 0x0d ∷ 0x0d ∷ 0x0a ∷ []
unfolding section_bytes
begins_so more = refl

some_bytes : (more : List ℕ) → 0 < length (section_bytes ++ more)
unfolding section_bytes
some_bytes more = omega (arith, length-append section_bytes more)

pub reads_back : ReadsNgBack
reads_back frames fit few =
    let more = flat_map enhanced_bytes frames in
    let start : Place = record { block = 2; packets = 0; start = 48 } in
    let behind : Place = record { block = 1; packets = 0; start = 28 } in
    let size = length-append interface_bytes more in
    let read = reads_frames start frames fit (omega arith) in
    let second = interface_block behind more in
    let interface : Block =
    record { len = 20; content = content.Interface (record { link = 1; snap = 262144 }) } in
    let P : List ℕ → Type 0 = λ l. Reads (record { big = false; interfaces = [] }) behind l
    (interface ∷ blocks_from 48 frames) (Ok None) in
    let from_interface : P (interface_bytes ++ more) = (omega (arith, size), second, read) in
    record {
      begins = begins_so more;
      blocks = record { len = 28; content = content.Section false } ∷ interface
          ∷ blocks_from 48 frames;
      read = (
        some_bytes more,
        header_block more,
        subst P
            (sym (behind_header more)) from_interface,
      );
      packets = sym (packets-blocks_from 48 frames);
      order = refl;
      unit = refl;
    }

-- the frames behind the bytes that went before
frames_behind : (front : List ℕ) (place : ℕ) (frames : List (List ℕ)) → length front ≡ place
    → map (frame_of (front ++ flat_map enhanced_bytes frames))
    (ng_records_from place frames) ≡ frames
frames_behind front place [] at = refl
frames_behind front place (f ∷ fs) at =
    let len = length f in
    let header = enhanced_header len in
    let tail = enhanced_tail len in
    let more = flat_map enhanced_bytes fs in
    let bytes = front ++ (enhanced_bytes f ++ more) in
    let behind = place + enhanced_len len in
    let next : map (frame_of ((front ++ enhanced_bytes f) ++ more))
    (ng_records_from behind fs) ≡ fs =
    frames_behind (front ++ enhanced_bytes f) behind fs
    (omega (arith, at, length-append front (enhanced_bytes f), length-block f)) in
    let same : (front ++ enhanced_bytes f) ++ more ≡ bytes =
    append_assoc front (enhanced_bytes f) more in
    let pieces : bytes ≡ (front ++ header) ++ (f ++ (tail ++ more)) =
    ap (λ l. front ++ l) (append_assoc (header ++ f) tail more ∙ append_assoc header f
    (tail ++ more))
    ∙ sym (append_assoc front header (f ++ (tail ++ more))) in
    let before : length (front ++ header) ≡ place + 28 =
    omega (arith, at, length-append front header, length-enhanced_header len) in
    let first : take len (drop (place + 28) bytes) ≡ f =
    ap (λ l. take len (drop (place + 28) l)) pieces
    ∙ ap (take len) (drop_at (front ++ header) (f ++ (tail ++ more)) (place + 28) before)
    ∙ take_at f (tail ++ more) len refl in
    let rest : map (frame_of bytes) (ng_records_from behind fs) ≡ fs =
    ap (λ l. map (frame_of l) (ng_records_from behind fs)) (sym same) ∙ next in
    ap (λ x. x ∷ map (frame_of bytes) (ng_records_from behind fs)) first ∙ ap (λ xs. f ∷ xs) rest

pub keeps_frames : KeepsNgFrames
unfolding section_bytes
keeps_frames frames = frames_behind section_bytes 48 frames refl
