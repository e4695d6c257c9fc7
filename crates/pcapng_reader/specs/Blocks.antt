-- The block at the front of the rest of a pcapng file: complete, truncated, or faulty.
use Rattle.std.specs.Prelude.{ℕ, ◌-◌, Bool, true, false, not, ◌==◌, nat_lt, if◌then◌else◌, List}
use Rattle.std.specs.Prelude.{length, Option, Some, None, Result, Ok, Err}
use Rattle.pcapng_reader.specs.declared.section.Section.{Section}
use Rattle.pcapng_reader.specs.declared.place.Place.{Place}
use Rattle.pcapng_reader.specs.declared.block.Block.{Block}
use Rattle.pcapng_reader.specs.declared.fault.NgFault.{NgFault}
use Rattle.pcapng_reader.specs.declared.fault.NgFault.TheVariants as fault
use Rattle.pcapng_reader.specs.Numbers.{u32_at}
use Rattle.pcapng_reader.specs.Contents.{is_len, and_then, content_at}

-- the type of a block; that of a section header is the same number in both byte orders
abbrev pub kind_of : Section → List ℕ → ℕ
kind_of section block = u32_at section.big 0 block

-- the byte order of a block: a section header announces its own, every other block has its
-- section's
unfoldable pub order_of : Section → List ℕ → Option Bool
order_of section block =
    if not (kind_of section block == 0x0a0d0d0a) then Some section.big
    else if u32_at false 8 block == 0x1a2b3c4d then Some false
    else if u32_at true 8 block == 0x1a2b3c4d then Some true
    else None

-- the first total length of a block
abbrev pub total_len : Bool → List ℕ → ℕ
total_len big block = u32_at big 4 block

-- the second total length of a block, in its last four bytes
abbrev pub tail_len : Bool → List ℕ → ℕ
tail_len big block = u32_at big (total_len big block - 4) block

-- the block at the front, of this byte order, with its content; `None` if it is truncated, and a
-- fault if its length does not fit its type, it does not end with its length, or its content is
-- faulty
unfoldable pub block_in : Section → Place → Bool → List ℕ → Result (Option Block) NgFault
block_in section place big rest =
    let len : ℕ = total_len big rest in
    let kind : ℕ = kind_of section rest in
    if not (is_len kind len) then Err (fault.BadBlock place.block len)
    else if nat_lt (length rest) len then Ok None
    else if not (tail_len big rest == len) then Err (fault.BadTail place.block (tail_len big rest))
    else
    and_then (λ content. Ok (Some (record { len = len; content = content })))
    (content_at section place kind big len rest)

-- the block at the front, of a byte order if it is known
abbrev pub ordered : Section → Place → List ℕ → Option Bool → Result (Option Block) NgFault
ordered section place rest None = Err (fault.BadOrder (u32_at false 8 rest))
ordered section place rest (Some big) = block_in section place big rest

-- the block at the front of the rest of a file: the first that applies of a truncated block, the
-- faults in their order, and a complete block
unfoldable pub block_at : Section → Place → List ℕ → Result (Option Block) NgFault
block_at section place rest =
    if nat_lt (length rest) 12 then Ok None
    else ordered section place rest (order_of section rest)
