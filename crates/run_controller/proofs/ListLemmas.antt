-- Members of lists of steps, and lists the other way round.
use Rattle.run_controller.proofs.Names.{◌≡◌, ◌⊎◌, inl, inr, zero, suc, List, [], ◌∷◌, ◌++◌, refl}
use Rattle.run_controller.proofs.Names.{ap, ◌∙◌, arith, append_assoc, Contains, oldest_first}

pub contains-first : {A : Type 0} (x : A) (xs : List A) → Contains (x ∷ xs) x
contains-first x xs = (0, omega arith, refl)

pub contains-later : {A : Type 0} (y : A) (xs : List A) (x : A) → Contains xs x
    → Contains (y ∷ xs) x
contains-later y xs x (k, less, is) = (suc k, omega arith, is)

pub contains-cases : {A : Type 0} (y : A) (xs : List A) (x : A) → Contains (y ∷ xs) x
    → (y ≡ x) ⊎ Contains xs x
contains-cases y xs x (zero, less, is) = inl is
contains-cases y xs x (suc k, less, is) = inr (k, omega arith, is)

pub append-none : {A : Type 0} (xs : List A) → xs ++ [] ≡ xs
append-none [] = refl
append-none (x ∷ xs) = ap (λ zs. x ∷ zs) (append-none xs)

-- one try more behind a journal
pub journal-more : {A : Type 0} (before late now after : List A) (x : A)
    → now ≡ before ++ oldest_first late → after ≡ now ++ x ∷ []
    → after ≡ before ++ oldest_first (x ∷ late)
journal-more before late now after x is more =
    more ∙ (ap (λ zs. zs ++ x ∷ []) is ∙ append_assoc before (oldest_first late) (x ∷ []))
