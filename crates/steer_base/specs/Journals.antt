-- Lists that only grow, up to a room that was reserved for them: one alone, and several side by
-- side.
use Rattle.std.specs.Prelude.{ℕ, List, [], ◌∷◌, ◌++◌, slice_index_or, slice_set, replicate, refl}
use Rattle.std.specs.Coded.{Coded, code_by, coded×, coded_list, coded_ℕ}

-- a list and the number of items that it has room for
pub record Journal (X : Type 0) : Type 0 where
  pub items : List X
  pub room : ℕ

-- several lists and the number of items that each has room for
pub record Journals (X : Type 0) : Type 0 where
  pub lists : List (List X)
  pub room : ℕ

module _ {X : Type 0} where
  abbrev pub journal : List X → ℕ → Journal X
  journal items room = record { items = items; room = room }

  abbrev pub journal_code : Coded X → Coded (Journal X)
  journal_code c =
      code_by (List X × ℕ) (coded× (coded_list c) coded_ℕ) (λ j. (j.items, j.room))
      (λ p. journal p.0 p.1) (λ _. refl)

  -- the journal with one item more at its end
  abbrev pub grown : Journal X → X → Journal X
  grown j x = journal (j.items ++ x ∷ []) j.room

  abbrev pub journals : List (List X) → ℕ → Journals X
  journals lists room = record { lists = lists; room = room }

  abbrev pub journals_code : Coded X → Coded (Journals X)
  journals_code c =
      code_by (List (List X) × ℕ) (coded× (coded_list (coded_list c)) coded_ℕ)
      (λ j. (j.lists, j.room))
      (λ p. journals p.0 p.1) (λ _. refl)

  -- the list of this number
  abbrev pub list_at : Journals X → ℕ → List X
  list_at j i = slice_index_or j.lists i []

  -- one of the lists has one item more at its end
  abbrev pub pushed : Journals X → ℕ → X → Journals X
  pushed j i x = journals (slice_set j.lists i (list_at j i ++ x ∷ [])) j.room

  -- so many empty lists
  abbrev pub new_journals : ℕ → ℕ → Journals X
  new_journals count room = journals (replicate count []) room
