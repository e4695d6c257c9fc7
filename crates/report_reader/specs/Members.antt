-- Sets of small numbers.
use Rattle.std.specs.Prelude.{ℕ, ◌<◌, List, [], ◌∷◌, ⊤}

-- numbers below 32
abbrev pub AreLow : List ℕ → Type 0
AreLow [] = ⊤
AreLow (n ∷ ns) = (n < 32) × AreLow ns
