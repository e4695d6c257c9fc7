-- What the words of a board's steps show.
use Rattle.std.specs.Prelude.{ℕ, ◌/◌, ◌%◌, ◌^◌, Bool, ◌==◌, nat_le}

-- The low 32 bits of a word: a head as a counter number, or the number of open visits at an open
-- gate.
abbrev pub low_half : ℕ → ℕ
low_half word = word % 2 ^ 32

-- The tail in the word of a lane, as a counter number.
abbrev pub tail_in : ℕ → ℕ
tail_in word = word / 2 % 2 ^ 32

-- Whether a seat holds the lane that has this word.
abbrev pub is_odd : ℕ → Bool
is_odd word = word % 2 == 1

-- Whether the gate that has this word is closed.
abbrev pub is_marked : ℕ → Bool
is_marked word = nat_le (2 ^ 31) (word % 2 ^ 32)

-- The number of openings that the word of a gate counts.
abbrev pub openings_in : ℕ → ℕ
openings_in word = word / 2 ^ 32
