-- Places as words: none is 0.
use Rattle.std.proofs.Common.{ℕ, zero, suc, ◌<◌, ◌≡◌, List, Option, Some, None, map, length, refl}
use Rattle.std.proofs.Common.{ap, ◌∙◌, sym, arith, get_or, set, replicate, ◌∷◌}
use Rattle.std.specs.Option.{option_or}
use Rattle.std.proofs.lemmas.List.{get_or-map, map-set}
use Rattle.history.specs.Index.{noted, place_of_word}

-- words of 0 stand for no places
pub words-none : (count : ℕ) → map place_of_word (replicate count 0) ≡ replicate count None
words-none zero = refl
words-none (suc count) = ap (λ places. None ∷ places) (words-none count)

word-some : (place : ℕ) → 0 < place → place_of_word place ≡ Some place
word-some zero some = absurd (omega arith)
word-some (suc place) some = refl

-- a word that is written where there was none notes its place
pub note-word : (words : List ℕ) (slots : List (Option ℕ)) (x y place : ℕ)
    → map place_of_word words ≡ slots → y ≡ x → y < length words → get_or words y 0 ≡ 0
    → 0 < place → map place_of_word (set words y place) ≡ noted slots x place
note-word words slots x y place is at within empty some =
    map-set place_of_word words y place
    ∙ ap (λ v. set (map place_of_word words) y v) value
    ∙ ap (λ k. noted (map place_of_word words) k place) at
    ∙ ap (λ s. noted s x place) is
  where
    slot : get_or (map place_of_word words) y None ≡ None
    slot = get_or-map place_of_word words y 0 None within ∙ ap place_of_word empty

    value : place_of_word place ≡ option_or (get_or (map place_of_word words) y None) (Some place)
    value = word-some place some ∙ sym (ap (λ o. option_or o (Some place)) slot)
