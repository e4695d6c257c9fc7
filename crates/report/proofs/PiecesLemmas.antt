-- Rows from their pieces.
use Rattle.std.proofs.Common.{◌≡◌, ℕ, List, [], ◌∷◌, ◌++◌, refl, sym, ap, ◌∙◌, append_assoc}
use Rattle.std.proofs.Common.{append-nil}
use Rattle.report.specs.Pieces.{spaced}
use Rattle.report.specs.Texts.{further, row_text}
use Rattle.report.specs.Texts.Row.{Line}

spaced-append : (fs gs : List (List ℕ)) → spaced (fs ++ gs) ≡ spaced fs ++ spaced gs
spaced-append [] gs = refl
spaced-append (f ∷ fs) gs =
    ap (λ r. 32 ∷ r) (ap (λ r. f ++ r) (spaced-append fs gs)
    ∙ sym (append_assoc f (spaced fs) (spaced gs)))

further-spaced : (fs : List (List ℕ)) → further fs ≡ spaced fs ++ 10 ∷ []
further-spaced [] = refl
further-spaced (f ∷ fs) =
    ap (λ r. 32 ∷ r) (ap (λ r. f ++ r) (further-spaced fs)
    ∙ sym (append_assoc f (spaced fs) (10 ∷ [])))

-- further fields behind those of a line
pub joined : (w : List ℕ) (fs gs : List (List ℕ)) (a b : List ℕ) → a ≡ w ++ spaced fs → b ≡ a
    ++ spaced gs → b ≡ w ++ spaced (fs ++ gs)
joined w fs gs a b e f =
    f ∙ ap (λ r. r ++ spaced gs) e ∙ append_assoc w (spaced fs) (spaced gs) ∙ ap (λ r. w ++ r)
    (sym (spaced-append fs gs))

-- the line feed ends a row
pub row_done : (w : List ℕ) (fs : List (List ℕ)) (a b : List ℕ) → a ≡ w ++ spaced fs → b ≡ a ++ 10
    ∷ [] → b ≡ row_text (Line w fs)
row_done w fs a b e f =
    f ∙ ap (λ r. r ++ 10 ∷ []) e ∙ append_assoc w (spaced fs) (10 ∷ [])
    ∙ ap (λ r. w ++ r) (sym (further-spaced fs)) ∙ sym (append-nil (w ++ further fs))
