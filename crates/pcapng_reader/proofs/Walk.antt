-- The blocks of a file, one after another: they are found in one way.
use Rattle.std.proofs.Common.{◌≡◌, ◌≤◌, ◌<◌, inl, inr, ℕ, zero, suc, ◌+◌, Bool, true, false, ◌==◌}
use Rattle.std.proofs.Common.{if◌then◌else◌, List, [], ◌∷◌, ◌++◌, length, drop, Option, Some, None}
use Rattle.std.proofs.Common.{Result, Ok, Err, All, length-drop, length-append, append-nil}
use Rattle.std.proofs.Common.{append_assoc, refl, sym, ap, subst, ◌∙◌, arith}
use Rattle.std.proofs.lemmas.Bool.Decides.{eqb_tells, nat_tests}
use Rattle.std.proofs.lemmas.List.{nil_from_length}
use Rattle.std.proofs.lemmas.List.Elements.{All-nil, All-cons, All-append}
use Rattle.pcap_reader.specs.declared.record.PcapRecord.{PcapRecord}
use Rattle.pcapng_reader.specs.declared.section.Section.{Section}
use Rattle.pcapng_reader.specs.declared.place.Place.{Place}
use Rattle.pcapng_reader.specs.declared.block.Block.{Block}
use Rattle.pcapng_reader.specs.declared.content.Content.{Content}
use Rattle.pcapng_reader.specs.declared.fault.NgFault.{NgFault}
use Rattle.pcapng_reader.specs.Blocks.{block_at}
use Rattle.pcapng_reader.specs.declared.content.Content.TheVariants as content
use Rattle.pcap_reader.specs.Captures.{FrameIsWithin}
use Rattle.pcapng_reader.specs.Captures.{no_section, file_start, packets_in, section_behind}
use Rattle.pcapng_reader.specs.Captures.{place_behind, End, EndsWith, Reads, BeginsNg, packets_of}
use Rattle.pcapng_reader.specs.Captures.{order_in, first_order, HasNgCapture, HasNgFault}
use Rattle.pcapng_reader.specs.declared.reader.Reader.{Reader}
use Rattle.pcapng_reader.specs.Readers.{TakesIn}
use Rattle.pcapng_reader.proofs.Placed.{PacketFits, IsPlaced, placed}

-- bytes end in one way
ends_once : (section : Section) (place : Place) (rest : List ℕ) (a b : End)
    → EndsWith section place rest a → EndsWith section place rest b → a ≡ b
ends_once section place rest (Ok None) (Ok None) h k = refl
ends_once section place rest (Ok None) (Ok (Some n)) h k = absurd (omega (arith, ap length h, k.0))
ends_once section place rest (Ok None) (Err e) h k = absurd (omega (arith, ap length h, k.0))
ends_once section place rest (Ok (Some n)) (Ok None) h k = absurd (omega (arith, ap length k, h.0))
ends_once section place rest (Ok (Some n)) (Ok (Some m)) h k =
    let same : n ≡ m = h.2 ∙ sym k.2 in ap (λ l. Ok (Some l)) same
ends_once section place rest (Ok (Some n)) (Err e) h k = let one = sym h.1 ∙ k.1 in absurd (cc)
ends_once section place rest (Err e) (Ok None) h k = absurd (omega (arith, ap length k, h.0))
ends_once section place rest (Err e) (Ok (Some n)) h k = let one = sym h.1 ∙ k.1 in absurd (cc)
ends_once section place rest (Err e) (Err f) h k = let one = sym h.1 ∙ k.1 in let same : e ≡ f =
    cc in ap (λ x. Err x) same

-- and not where a whole block begins
ends_or_begins : (section : Section) (place : Place) (rest : List ℕ) (a : End) (b : Block)
    → EndsWith section place rest a
    → 0 < length rest → block_at section place rest ≡ Ok (Some b) → ⊥
ends_or_begins section place rest (Ok None) b h some is = absurd (omega (arith, ap length h, some))
ends_or_begins section place rest (Ok (Some n)) b h some is = let one = sym h.1 ∙ is in absurd (cc)
ends_or_begins section place rest (Err e) b h some is = let one = sym h.1 ∙ is in absurd (cc)

pub reads_once : (section : Section) (place : Place) (bytes : List ℕ) (bs cs : List Block)
    (a b : End) → Reads section place bytes bs a → Reads section place bytes cs b
    → (bs ≡ cs) × (a ≡ b)
reads_once section place bytes [] [] a b h k = (refl, ends_once section place bytes a b h k)
reads_once section place bytes [] (y ∷ cs) a b h k =
    absurd (ends_or_begins section place bytes a y h k.0 k.1)
reads_once section place bytes (x ∷ bs) [] a b h k =
    absurd (ends_or_begins section place bytes b x k h.0 h.1)
reads_once section place bytes (x ∷ bs) (y ∷ cs) a b h k =
    let one = sym k.1 ∙ h.1 in
    let same : y ≡ x = cc in
    let Behind : Block → Type 0 = λ z. Reads (section_behind section z.content)
    (place_behind place z) (drop z.len bytes) cs b in
    let rest = reads_once (section_behind section x.content) (place_behind place x)
    (drop x.len bytes) bs cs a b h.2 (subst Behind same k.2) in
    (ap (λ z. z ∷ bs) (sym same) ∙ ap (λ zs. y ∷ zs) rest.0, rest.1)

-- some blocks and an end
abbrev Readable : Section → Place → List ℕ → Type 0
Readable section place bytes = (bs : List Block) × (a : End) × Reads section place bytes bs a

one_more : (section : Section) (place : Place) (bytes : List ℕ)
    (found : Result (Option Block) NgFault) → 0 < length bytes
    → block_at section place bytes ≡ found
    → ((b : Block) → IsPlaced place bytes b → Readable (section_behind section b.content)
    (place_behind place b) (drop b.len bytes))
    → Readable section place bytes
one_more section place bytes (Ok None) some is rest =
    ([], Ok (Some (length bytes)), (some, is, refl))
one_more section place bytes (Ok (Some b)) some is rest =
    let (bs, a, behind) = rest b (placed section place bytes b is) in
    (b ∷ bs, a, (some, is, behind))
one_more section place bytes (Err e) some is rest = ([], Err e, (some, is))

-- all bytes are some blocks and an end
pub reads_some : (n : ℕ) (section : Section) (place : Place) (bytes : List ℕ) → length bytes ≤ n
    → (bs : List Block) × (a : End) × Reads section place bytes bs a
reads_some n section place [] few = ([], Ok None, refl)
reads_some zero section place (x ∷ xs) few = absurd (omega arith)
reads_some (suc n) section place (x ∷ xs) few =
    one_more section place (x ∷ xs) (block_at section place (x ∷ xs)) (omega arith) refl
    (λ b p. reads_some n (section_behind section b.content) (place_behind place b)
    (drop b.len (x ∷ xs))
    (omega (arith, length-drop b.len (x ∷ xs), p.least)))

-- what was read of a file up to some place, and what is left
pub record Walked (bytes : List ℕ) (section : Section) (place : Place) (records : List PcapRecord)
    (big : Bool) (rest : List ℕ) : Type 0 where
  pub blocks : List Block
  pub goes_on : (more : List Block) (end : End) → Reads section place rest more end
      → Reads no_section file_start bytes (blocks ++ more) end
  pub packets : records ≡ packets_of blocks
  pub order : big ≡ first_order blocks
  pub many : place.block ≡ length blocks
  pub counted : place.packets ≡ length records
  pub few : place.packets ≤ 262144
  pub inside : place.start + length rest ≡ length bytes
  pub narrow : place.block ≤ place.start
  pub within : All (FrameIsWithin bytes) records

pub walked_start : (bytes : List ℕ) → Walked bytes no_section file_start [] false bytes
walked_start bytes = record {
  blocks = [];
  goes_on = λ more end reads. reads;
  packets = refl;
  order = refl;
  many = refl;
  counted = refl;
  few = omega arith;
  inside = omega arith;
  narrow = omega arith;
  within = All-nil (FrameIsWithin bytes);
}

-- the order of the first block, with one block more
pub order-push : (blocks : List Block) (b : Block) (n : ℕ) (big : Bool) → n ≡ length blocks
    → big ≡ first_order blocks
    → (if n == 0 then order_in b.content else big) ≡ first_order (blocks ++ b ∷ [])
order-push [] b n big many order = rw many refl
order-push (x ∷ xs) b n big many order =
    let other : (n == 0) ≡ false = grind (arith, nat_tests) in rw (other, order) refl

pub packets-push : (blocks : List Block) (b : Block)
    → packets_of (blocks ++ b ∷ []) ≡ packets_of blocks ++ packets_in b.content
packets-push [] b = append-nil (packets_in b.content)
packets-push (x ∷ xs) b =
    ap (λ l. packets_in x.content ++ l) (packets-push xs b)
    ∙ sym (append_assoc (packets_in x.content) (packets_of xs) (packets_in b.content))

-- a packet more is still not too many, and lies within the file
pub few_more : (place : Place) (len : ℕ) (c : Content) → place.packets ≤ 262144
    → PacketFits place len c
    → place.packets + length (packets_in c) ≤ 262144
few_more place len (content.Section big) few fits = omega arith
few_more place len (content.Interface i) few fits = omega arith
few_more place len (content.Packet r) few fits = omega (arith, fits.0)
few_more place len content.Other few fits = omega arith

within_more : (bytes : List ℕ) (place : Place) (len : ℕ) (c : Content) (records : List PcapRecord)
    → All (FrameIsWithin bytes) records → place.start + len ≤ length bytes
    → PacketFits place len c → All (FrameIsWithin bytes) (records ++ packets_in c)
within_more bytes place len (content.Section big) records all inside fits = rw append-nil all
within_more bytes place len (content.Interface i) records all inside fits = rw append-nil all
within_more bytes place len (content.Packet r) records all inside fits =
    All-append (FrameIsWithin bytes) records (r ∷ []) all (All-cons (FrameIsWithin bytes) r []
    (omega (arith, fits.1, inside)) (All-nil (FrameIsWithin bytes)))
within_more bytes place len content.Other records all inside fits = rw append-nil all

-- one block more
pub walked_more : (bytes : List ℕ) (section : Section) (place : Place) (records : List PcapRecord)
    (big : Bool) (rest : List ℕ) (b : Block)
    → Walked bytes section place records big rest → 0 < length rest
    → block_at section place rest ≡ Ok (Some b)
    → Walked bytes (section_behind section b.content) (place_behind place b)
    (records ++ packets_in b.content)
    (if place.block == 0 then order_in b.content else big) (drop b.len rest)
walked_more bytes section place records big rest b w some is =
    let p = placed section place rest b is in
    record {
      blocks = w.blocks ++ b ∷ [];
      goes_on = λ more end reads.
          let Whole : List Block → Type 0 = λ l. Reads no_section file_start bytes l end in
          subst Whole (sym (append_assoc w.blocks (b ∷ []) more)) (w.goes_on (b ∷ more) end
          (some, is, reads));
      packets = ap (λ l. l ++ packets_in b.content) w.packets ∙ sym (packets-push w.blocks b);
      order = order-push w.blocks b place.block big w.many w.order;
      many = omega (arith, w.many, length-append w.blocks (b ∷ []));
      counted = omega (arith, w.counted, length-append records (packets_in b.content));
      few = few_more place b.len b.content w.few p.packet;
      inside = omega (arith, w.inside, p.whole, length-drop b.len rest);
      narrow = omega (arith, w.narrow, p.least);
      within = within_more bytes place b.len b.content records w.within
          (omega (arith, w.inside, p.whole)) p.packet;
    }

-- and the end
pub walked_all : (bytes : List ℕ) (section : Section) (place : Place) (records : List PcapRecord)
    (big : Bool) (rest : List ℕ) (cut : Option ℕ)
    → BeginsNg bytes → Walked bytes section place records big rest → EndsWith section place rest
    (Ok cut)
    → HasNgCapture bytes (record { big = big; nano = false; records = records; cut = cut })
walked_all bytes section place records big rest cut begins w ends = record {
  begins = begins;
  blocks = w.blocks ++ [];
  read = w.goes_on [] (Ok cut) ends;
  packets = rw append-nil w.packets;
  order = rw append-nil w.order;
  unit = refl;
}

pub walked_fault : (bytes : List ℕ) (section : Section) (place : Place) (records : List PcapRecord)
    (big : Bool) (rest : List ℕ) (e : NgFault)
    → BeginsNg bytes → Walked bytes section place records big rest → EndsWith section place rest
    (Err e) → HasNgFault bytes e
walked_fault bytes section place records big rest e begins w ends = record {
  begins = begins;
  blocks = w.blocks ++ [];
  read = w.goes_on [] (Err e) ends;
}

pub some_left : (rest : List ℕ) (empty : Bool) → empty ≡ (length rest == 0) → empty ≡ false
    → 0 < length rest
some_left [] empty is some = absurd (let e = sym is ∙ some in cc)
some_left (x ∷ xs) empty is some = omega arith

pub none_left : (rest : List ℕ) (empty : Bool) → empty ≡ (length rest == 0) → empty ≡ true
    → rest ≡ []
none_left rest empty is none = nil_from_length rest (elim (eqb_tells (length rest) 0) [
  | inl a ↦ a.1
  | inr a ↦ absurd (let e = sym a.0 ∙ sym is ∙ none in cc)
])

-- the reader behind a block
pub taken_in : (bytes : List ℕ) (reader next : Reader) (rest behind : List ℕ) (b : Block)
    → Walked bytes reader.walker.section reader.walker.place reader.records reader.walker.big rest
    → 0 < length rest
    → block_at reader.walker.section reader.walker.place rest ≡ Ok (Some b)
    → TakesIn reader b next → behind ≡ drop b.len rest
    → Walked bytes next.walker.section next.walker.place next.records next.walker.big behind
taken_in bytes reader next rest behind b w some is takes back =
    let old = reader.walker in
    let past = takes.walker in
    let more = walked_more bytes old.section old.place reader.records old.big rest b w some is in
    rw (past.section, past.place, takes.records, past.order, back) more
