-- Items that are taken from the end of a reversed list, so that they come in their order.
use Rattle.std.proofs.lemmas.List.{append_assoc, map-append, reverse-append}
use Rattle.steer_base.specs.Journals.{grown}
use Rattle.workers.proofs.Names.{◌≡◌, ℕ, Some, List, [], ◌∷◌, ◌++◌, length, map, reverse, slice_get}
use Rattle.workers.proofs.Names.{refl, sym, ap, ◌∙◌, Journal, journal}

module _ {X : Type 0} where
  pub get-next : (front more : List X) (x : X)
      → slice_get (front ++ x ∷ more) (length front) ≡ Some x
  get-next [] more x = refl
  get-next (y ∷ front) more x = get-next front more x

  module _ (front left rest all : List X) (x : X) (pops : left ≡ rest ++ x ∷ [])
      (whole : front ++ reverse left ≡ all) where
    next-whole : front ++ x ∷ reverse rest ≡ all
    next-whole =
        ap (λ xs. front ++ xs) (sym (ap reverse pops ∙ reverse-append rest (x ∷ []))) ∙ whole

    -- the next item is the first that is left
    pub taken-at : slice_get all (length front) ≡ Some x
    taken-at =
        ap (λ xs. slice_get xs (length front)) (sym next-whole)
        ∙ get-next front (reverse rest) x

    -- and is in front then
    pub taken-whole : (front ++ x ∷ []) ++ reverse rest ≡ all
    taken-whole = append_assoc front (x ∷ []) (reverse rest) ∙ next-whole

  -- its part is added to a list of parts
  pub taken-part : {Y : Type 0} (f : X → Y) (front : List X) (x : X) (y : Y)
      (old new : Journal Y) (room : ℕ) → old ≡ journal (map f front) room
      → new ≡ grown old y → y ≡ f x → new ≡ journal (map f (front ++ x ∷ [])) room
  taken-part f front x y old new room is grows same =
      grows
      ∙ (ap (λ j. grown j y) is
      ∙ (ap (λ z. journal (map f front ++ z ∷ []) room) same
      ∙ ap (λ ys. journal ys room) (sym (map-append f front (x ∷ [])))))
