-- A pcapng file as its writer puts it together: blocks one after another, and perhaps the beginning
-- of one whose end is missing.
use Rattle.std.specs.Prelude.{◌≡◌, ◌<◌, ℕ, false, List, [], ◌∷◌, length, Option, Some, None}
use Rattle.pcap_reader.specs.declared.capture.Capture.{Capture}
use Rattle.pcapng_reader.specs.declared.section.Section.{Section}
use Rattle.pcapng_reader.specs.declared.place.Place.{Place}
use Rattle.pcapng_reader.specs.declared.block.Block.{Block}
use Rattle.pcapng_reader.specs.Captures.{no_section, file_start, section_behind, place_behind}
use Rattle.pcapng_reader.specs.Captures.{BeginsNg, packets_of, first_order}
use Rattle.pcapng_reader.specs.Format.{IsWritten, IsTruncated}

-- the bytes from this place on are these blocks one after another, each in the section that those
-- before it leave, and then nothing or a truncated block of this many bytes
abbrev pub AreWritten : Section → Place → List ℕ → List Block → Option ℕ → Type 0
AreWritten section place bytes [] None = bytes ≡ []
AreWritten section place bytes [] (Some cut) =
    (0 < length bytes) × IsTruncated section bytes × (cut ≡ length bytes)
AreWritten section place bytes (b ∷ bs) cut =
    (more : List ℕ) × IsWritten section place bytes b more
    × AreWritten (section_behind section b.content) (place_behind place b) more bs cut

-- a file's bytes were put together from blocks, and this is what the blocks say
pub record IsNgFile (bytes : List ℕ) (capture : Capture) : Type 0 where
  pub begins : BeginsNg bytes
  pub blocks : List Block
  pub written : AreWritten no_section file_start bytes blocks capture.cut
  pub packets : capture.records ≡ packets_of blocks
  pub order : capture.big ≡ first_order blocks
  pub unit : capture.nano ≡ false
