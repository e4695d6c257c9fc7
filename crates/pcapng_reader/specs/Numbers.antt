-- The numbers in the fields of a block: `true` is big-endian, `false` little-endian.
use Rattle.std.specs.Prelude.{ℕ, Bool, List, drop}
use Rattle.pcap_reader.specs.Numbers.{number_of}

-- the 16-bit number at an offset
unfoldable pub u16_at : Bool → ℕ → List ℕ → ℕ
u16_at big at bytes = number_of big 2 (drop at bytes)

-- the 32-bit number at an offset
unfoldable pub u32_at : Bool → ℕ → List ℕ → ℕ
u32_at big at bytes = number_of big 4 (drop at bytes)
