-- The numbers of a capture file, and the magic number that announces how they are written.
use Rattle.std.specs.Prelude.{◌≡◌, ℕ, Bool, true, false, List, take}
use Rattle.byteorder.specs.Endian.{big_number, little_number, big_bytes, little_bytes}

-- the number in the first bytes of a list: `true` is big-endian, `false` little-endian
abbrev pub number_of : Bool → ℕ → List ℕ → ℕ
number_of true = big_number
number_of false = little_number

-- a magic number as four bytes in a byte order
abbrev pub bytes_of : Bool → ℕ → List ℕ
bytes_of true magic = big_bytes 4 magic
bytes_of false magic = little_bytes 4 magic

-- the magic number of the pcap file format: `true` is for nanoseconds, `false` for microseconds
abbrev pub magic_of : Bool → ℕ
magic_of true = 0xa1b23c4d
magic_of false = 0xa1b2c3d4

-- these bytes begin with the magic number of this unit of time, written in this byte order
abbrev pub HasMagic : Bool → Bool → List ℕ → Type 0
HasMagic big nano bytes = take 4 bytes ≡ bytes_of big (magic_of nano)
