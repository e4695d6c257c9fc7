-- The values of a line: its fields without the words that name the first of them, and the numbers
-- that they are.
use Rattle.std.specs.Prelude.{ℕ, zero, suc, ◌≡◌, ◌<◌, ◌^◌, List, [], ◌∷◌, decimal, length, ⊤}

-- before each of the first values of a line stands a word, so many bytes with the space behind it,
-- or none where the number is 0
abbrev pub HasSteps : (steps : List ℕ) → (fields : List (List ℕ)) → Type 0
HasSteps [] fields = ⊤
HasSteps (n ∷ steps) [] = ⊥
HasSteps (zero ∷ steps) (value ∷ more) = HasSteps steps more
HasSteps (suc n ∷ steps) (word ∷ []) = ⊥
HasSteps (suc n ∷ steps) (word ∷ value ∷ more) = (length word ≡ n) × HasSteps steps more

-- the fields of a line without these words
abbrev pub values_of : (steps : List ℕ) → (fields : List (List ℕ)) → List (List ℕ)
values_of [] fields = fields
values_of (n ∷ steps) [] = []
values_of (zero ∷ steps) (value ∷ more) = value ∷ values_of steps more
values_of (suc n ∷ steps) (word ∷ []) = []
values_of (suc n ∷ steps) (word ∷ value ∷ more) = value ∷ values_of steps more

-- Bytes that are the decimal digits of a number below 2^64 give this number. Other bytes give some
-- number.
abbrev pub IsNumber : (bytes : List ℕ) → (number : ℕ) → Type 0
IsNumber bytes number = (n : ℕ) → n < 2 ^ 64 → bytes ≡ decimal n → number ≡ n
