-- Which numbers are marked, by bits of words.
use Rattle.std.specs.Prelude.{ℕ, ◌/◌, ◌%◌, Bool, ◌==◌, slice_index}
use Rattle.std.specs.Int.{bit_at}
use Rattle.accel_filter.specs.declared.marks.Marks.{Marks}

-- whether a bit of a word is set
abbrev pub has_bit : ℕ → ℕ → Bool
has_bit word bit = bit_at word bit == 1

-- whether a number is marked: bit n mod 64 of word n / 64 is set; past the last word none is
abbrev pub marked : Marks → ℕ → Bool
marked marks n = has_bit (slice_index marks.words (n / 64)) (n % 64)
