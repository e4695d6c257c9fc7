-- The lines of the taps' texts.
use Rattle.std.specs.Prelude.{ℕ, List, ◌++◌, codes, decimal}
use Rattle.std.specs.List.{flat_map, range_with_len}

-- a text line of two words, each followed by a number
abbrev pub row : List ℕ → ℕ → List ℕ → ℕ → List ℕ
row name subject measure value = name ++ decimal subject ++ measure ++ decimal value ++ codes "\n"

-- the texts of `count` processors from `first` on, ascending
abbrev pub rows_of_cpus : ℕ → ℕ → (ℕ → List ℕ) → List ℕ
rows_of_cpus first count text = flat_map text (range_with_len first count)

-- the texts of all 256 processors, ascending
unfoldable pub each_cpu : (ℕ → List ℕ) → List ℕ
each_cpu text = rows_of_cpus 0 256 text
