-- The words that threads change beside each other lie on cache lines of their own.
use Rattle.std.specs.Prelude.{◌≢◌, ◌⊎◌, ℕ, ◌+◌, ◌*◌, ◌≤◌}
use Rattle.hop_rule.specs.declared.sizes.BoardSizes.{BoardSizes}
use Rattle.hop_board.specs.declared.places.Word.{Word}
use Rattle.hop_board.specs.declared.places.Word.TheVariants as kind
use Rattle.hop_board.specs.Tables.{IsWord, place}

-- The word changes with the packets and the visits: that of a lane, of a head or of the gate. A
-- setting changes only while the gate is closed.
abbrev pub IsContended : Word → Type 0
IsContended (kind.Lane x) = Unit {0}
IsContended (kind.Head l) = Unit {0}
IsContended kind.Gate = Unit {0}
IsContended (kind.Setting i) = ⊥

-- The words at these places, of 8 bytes each, begin at least 64 bytes from each other, so they
-- are on different lines of 64 bytes wherever the table begins.
abbrev pub AreALineApart : ℕ → ℕ → Type 0
AreALineApart i j = (8 * i + 64 ≤ 8 * j) ⊎ (8 * j + 64 ≤ 8 * i)

-- A contended word shares its cache line with no other word of the board.
abbrev pub ContendedWordsLieApart : BoardSizes → Type 0
ContendedWordsLieApart about = (v w : Word) → IsWord about v → IsWord about w → IsContended v
    → v ≢ w → AreALineApart (place about v) (place about w)
