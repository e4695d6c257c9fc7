-- Lists of steps, tries and turns have the newest first.
use Rattle.std.specs.Prelude.{List, [], ◌∷◌, ◌++◌}

-- A list the other way round: the oldest first.
abbrev pub oldest_first : {A : Type 0} → List A → List A
oldest_first [] = []
oldest_first (x ∷ xs) = oldest_first xs ++ x ∷ []
