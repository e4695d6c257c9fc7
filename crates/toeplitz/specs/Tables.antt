-- A key as a table: a row for each place of an input byte, and in each row a word for each byte.
use Rattle.std.specs.Prelude.{◌≡◌, ℕ, zero, suc, ◌+◌, ◌*◌, ◌-◌, ◌<◌, List, [], ◌∷◌, length}
use Rattle.std.specs.Prelude.{slice_index}
use Rattle.std.specs.Prelude.{bit_xor, if◌then◌else◌, ◌==◌}
use Rattle.std.specs.Int.{bit_at}
use Rattle.toeplitz.specs.Toeplitz.{key_window}

-- the XOR of the key's windows at those of the first n bits of an input byte that are 1; the byte
-- is at index `place` of the input
unfoldable pub xor_of_byte : (key place byte count : ℕ) → ℕ
xor_of_byte key place byte zero = 0
xor_of_byte key place byte (suc k) =
    if bit_at byte (7 - k) == 1 then bit_xor (xor_of_byte key place byte k)
    (key_window key (8 * place + k))
    else xor_of_byte key place byte k

-- what a byte at an index of the input adds to the hash
abbrev pub word_of : (key place byte : ℕ) → ℕ
word_of key place byte = xor_of_byte key place byte 8

-- the XOR of what some bytes add to the hash, the first of them at an index of the input
unfoldable pub xor_of_bytes : ℕ → ℕ → List ℕ → ℕ
xor_of_bytes key place [] = 0
xor_of_bytes key place (byte ∷ bytes) =
    bit_xor (word_of key place byte) (xor_of_bytes key (suc place) bytes)

-- The table of a key: 36 rows of 256 words, one row after another. The word at `byte` in row
-- `place` is what this byte adds to the hash at index `place` of the input.
pub record IsTable (key : ℕ) (words : List ℕ) : Type 0 where
  pub size : length words ≡ 9216
  pub word : (place byte : ℕ) → place < 36 → byte < 256 → slice_index words
      (256 * place + byte) ≡ word_of key place byte
