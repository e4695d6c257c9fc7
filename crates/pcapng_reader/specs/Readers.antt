-- The walker over the blocks of a pcapng file, and the reader of the file, after a block.
use Rattle.std.specs.Prelude.{◌≡◌, ◌≤◌, ◌<◌, ℕ, ◌+◌, ◌-◌, ◌^◌, ◌==◌, if◌then◌else◌, ◌++◌, false}
use Rattle.std.specs.Prelude.{Option}
use Rattle.pcap_reader.specs.declared.capture.Capture.{Capture}
use Rattle.pcapng_reader.specs.declared.block.Block.{Block}
use Rattle.pcapng_reader.specs.declared.place.Place.{Place}
use Rattle.pcapng_reader.specs.declared.content.Content.{Content}
use Rattle.pcapng_reader.specs.declared.content.Content.TheVariants as content
use Rattle.pcapng_reader.specs.declared.reader.Reader.{Reader}
use Rattle.pcapng_reader.specs.declared.walker.NgWalker.{NgWalker}
use Rattle.pcapng_reader.specs.declared.walker.NgNext.{NgNext}
use Rattle.pcapng_reader.specs.declared.walker.NgNext.TheVariants as next
use Rattle.pcapng_reader.specs.Captures.{packets_in, section_behind, place_behind, order_in}

-- the walker after a block
pub record PassesBlock (old : NgWalker) (b : Block) (new : NgWalker) : Type 0 where
  pub section : new.section ≡ section_behind old.section b.content
  pub place : new.place ≡ place_behind old.place b
  pub order : new.big ≡ (if old.place.block == 0 then order_in b.content else old.big)

-- the reader after a block
pub record TakesIn (old : Reader) (b : Block) (new : Reader) : Type 0 where
  pub walker : PassesBlock old.walker b new.walker
  pub records : new.records ≡ old.records ++ packets_in b.content

-- the capture of what was read, if the file ends like this
abbrev pub ng_capture_of : Reader → Option ℕ → Capture
ng_capture_of reader cut =
    record { big = reader.walker.big; nano = false; records = reader.records; cut = cut }

-- one more packet of a block at this place can be counted
abbrev pub HasRoom : Place → Content → Type 0
HasRoom place (content.Section big) = Unit {0}
HasRoom place (content.Interface interface) = Unit {0}
HasRoom place (content.Packet r) = place.packets + 1 < 2 ^ 32
HasRoom place content.Other = Unit {0}

-- the frame of a block at this place does not begin before the block
abbrev pub BeginsBehind : Place → Content → Type 0
BeginsBehind place (content.Section big) = Unit {0}
BeginsBehind place (content.Interface interface) = Unit {0}
BeginsBehind place (content.Packet r) = place.start ≤ r.start
BeginsBehind place content.Other = Unit {0}

-- what a window begins with at the place of a complete block
abbrev pub next_in : Place → ℕ → Content → NgNext
next_in place size (content.Section big) = next.Other size
next_in place size (content.Interface interface) = next.Other size
next_in place size (content.Packet r) = next.Frame (r.start - place.start) r.len size
next_in place size content.Other = next.Other size

abbrev pub next_of : Place → Block → NgNext
next_of place b = next_in place b.len b.content
