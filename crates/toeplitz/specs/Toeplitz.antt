-- The Toeplitz hash (Intel 82599 datasheet; Microsoft's description of the RSS hash): the key is
-- one number of 320 bits, the input a sequence of bits.
use Rattle.std.specs.Prelude.{ℕ, zero, suc, ◌+◌, ◌*◌, ◌-◌, ◌/◌, ◌%◌, ◌^◌, List, [], ◌∷◌, length}
use Rattle.std.specs.Prelude.{slice_index}
use Rattle.std.specs.Prelude.{bit_xor, if◌then◌else◌, ◌==◌}
use Rattle.std.specs.Int.{bit_at}
use Rattle.toeplitz.specs.declared.key.TheConstants.{VERIFICATION_KEY}

-- bytes as one number, the first byte the most significant
abbrev pub number_of : List ℕ → ℕ
number_of [] = 0
number_of (byte ∷ bytes) = byte * 2 ^ (8 * length bytes) + number_of bytes

-- bit j of the bytes, counted from the left
abbrev pub bit_from_left : List ℕ → ℕ → ℕ
bit_from_left bytes j = bit_at (slice_index bytes (j / 8)) (7 - j % 8)

-- the 32 bits of the key that begin at its bit j from the left: what input bit j adds to the hash
-- if it is 1
abbrev pub key_window : ℕ → ℕ → ℕ
key_window key j = key / 2 ^ (288 - j) % 2 ^ 32

-- the XOR of the key's windows at those of the first n input bits that are 1
unfoldable pub xor_of_bits : ℕ → List ℕ → ℕ → ℕ
xor_of_bits key input zero = 0
xor_of_bits key input (suc j) =
    if bit_from_left input j == 1 then bit_xor (xor_of_bits key input j)
    (key_window key j) else xor_of_bits key input j

-- the Toeplitz hash of an input of at most 36 bytes, so that every bit has its window in the key
abbrev pub hash_of : ℕ → List ℕ → ℕ
hash_of key input = xor_of_bits key input (8 * length input)

-- the key of Microsoft's verification suite for the RSS hash, as one number
abbrev pub verification_key : ℕ
verification_key = number_of VERIFICATION_KEY
