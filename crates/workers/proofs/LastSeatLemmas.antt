-- The own lists of the seats of a crew and of the last seat of a board.
use Rattle.std.specs.Prelude.{if◌then◌else◌, slice_get}
use Rattle.std.proofs.lemmas.Bool.{eq-eqb, ne_eqb}
use Rattle.std.proofs.lemmas.List.Elements.{Contains-append_left}
use Rattle.std.proofs.lemmas.List.Elements.{Contains-push, Contains-push_cases}
use Rattle.hop_rule.specs.Owns.{puts_of}
use Rattle.board_api.specs.Closings.Closings.{own_in}
use Rattle.run_crew.proofs.ChoiceFunctions.{is-within, none-some, some-is}
use Rattle.workers.proofs.Names.{◌≡◌, ◌≢◌, ◌⊎◌, inl, inr, ℕ, zero, suc, ◌≤◌, List, [], ◌∷◌, ◌++◌}
use Rattle.workers.proofs.Names.{Bool, Some, length, map, sym, refl, ap, ◌∙◌, arith, Contains}
use Rattle.workers.proofs.Names.{cases_eq, BoardSeatView, Seated}

-- ---- own lists

-- the list of a seat that is there, if no other has its number
own-there : (seats : List BoardSeatView) (y : BoardSeatView) → Contains seats y
    → ((z : BoardSeatView) → Contains seats z → z.number ≡ y.number → z.steps ≡ y.steps)
    → own_in seats y.number ≡ y.steps
own-there [] y (k, less, at) only = absurd (omega (arith, less))
own-there (s ∷ seats) y (zero, less, at) only =
    ap (λ (b : Bool). if b then s.steps else own_in seats y.number)
    (eq-eqb s.number y.number (ap (λ (z : BoardSeatView). z.number) at))
    ∙ ap (λ (z : BoardSeatView). z.steps) at
own-there (s ∷ seats) y (suc k, less, at) only =
    by-number (cases_eq s.number y.number)
    (own-there seats y (k, omega (arith, less), at) (λ z there same.
    let l = there.1 in only z (suc there.0, omega (arith, l), there.2) same))
  where
    by-number : (s.number ≡ y.number) ⊎ (s.number ≢ y.number)
        → own_in seats y.number ≡ y.steps → own_in (s ∷ seats) y.number ≡ y.steps
    by-number (inl same) rest =
        ap (λ (b : Bool). if b then s.steps else own_in seats y.number)
        (eq-eqb s.number y.number same)
        ∙ only s (0, omega arith, refl) same
    by-number (inr ne) rest =
        ap (λ (b : Bool). if b then s.steps else own_in seats y.number)
        (ne_eqb s.number y.number ne)
        ∙ rest

-- the list of any number is that of a seat that is there, or empty
own-cases : (seats : List BoardSeatView) (w : ℕ)
    → ((z : BoardSeatView) × Contains seats z × (z.number ≡ w) × (own_in seats w ≡ z.steps))
    ⊎ (own_in seats w ≡ [])
own-cases [] w = inr refl
own-cases (s ∷ seats) w = by-number (cases_eq s.number w) (own-cases seats w)
  where
    by-number : (s.number ≡ w) ⊎ (s.number ≢ w)
        → ((z : BoardSeatView) × Contains seats z × (z.number ≡ w) × (own_in seats w ≡ z.steps))
        ⊎ (own_in seats w ≡ [])
        → ((z : BoardSeatView) × Contains (s ∷ seats) z × (z.number ≡ w)
        × (own_in (s ∷ seats) w ≡ z.steps)) ⊎ (own_in (s ∷ seats) w ≡ [])
    by-number (inl same) rest =
        inl (
          s,
          (0, omega arith, refl),
          same,
          ap (λ (b : Bool). if b then s.steps else own_in seats w) (eq-eqb s.number w same),
        )
    by-number (inr ne) (inl (z, there, number, own)) =
        let l = there.1 in
        inl (
          z,
          (suc there.0, omega (arith, l), there.2),
          number,
          ap (λ (b : Bool). if b then s.steps else own_in seats w) (ne_eqb s.number w ne) ∙ own,
        )
    by-number (inr ne) (inr none) =
        inr
        (ap (λ (b : Bool). if b then s.steps else own_in seats w) (ne_eqb s.number w ne) ∙ none)

-- ---- what a crew has

module _ {B : Type 0} (f : Seated → B) where
  pub crew-has : (crew : List Seated) (w : ℕ) (x : Seated) → slice_get crew w ≡ Some x
      → Contains (map f crew) (f x)
  crew-has [] w x there = none-some x there
  crew-has (y ∷ ys) zero x there = (0, omega arith, ap f (some-is y x there))
  crew-has (y ∷ ys) (suc w) x there =
      let rest = crew-has ys w x there in
      let l = rest.1 in (suc rest.0, omega (arith, l), rest.2)

  pub of-crew : (crew : List Seated) (z : B) → Contains (map f crew) z
      → (w : ℕ) × (x : Seated) × (slice_get crew w ≡ Some x) × (f x ≡ z)
  of-crew [] z (k, less, at) = absurd (omega (arith, less))
  of-crew (y ∷ ys) z (zero, less, at) = (0, y, refl, at)
  of-crew (y ∷ ys) z (suc k, less, at) =
      let rest = of-crew ys z (k, omega (arith, less), at) in
      (suc rest.0, rest.1, rest.2, rest.3)

-- ---- a crew's seats at a board, and the last seat

module _ (f : Seated → BoardSeatView) (crew : List Seated) (last : BoardSeatView)
    (numbers : (w : ℕ) (x : Seated) → slice_get crew w ≡ Some x → (f x).number ≡ w)
    (end : last.number ≡ length crew) where
  abbrev seats : List BoardSeatView
  seats = map f crew ++ last ∷ []

  pub seats-worker : (w : ℕ) (x : Seated) → slice_get crew w ≡ Some x
      → own_in seats w ≡ (f x).steps
  seats-worker w x there =
      ap (own_in seats) (sym (numbers w x there))
      ∙ own-there seats (f x)
      (Contains-append_left (map f crew) (last ∷ []) (f x) (crew-has f crew w x there)) only
    where
      only : (z : BoardSeatView) → Contains seats z → z.number ≡ (f x).number
          → z.steps ≡ (f x).steps
      only z has same = by-place (Contains-push_cases (map f crew) last z has)
        where
          by-place : Contains (map f crew) z ⊎ (last ≡ z) → z.steps ≡ (f x).steps
          by-place (inl at) =
              let o = of-crew f crew z at in
              let place : o.0 ≡ w =
              sym (numbers o.0 o.1 o.2)
              ∙ (ap (λ (s : BoardSeatView). s.number) o.3 ∙ (same ∙ numbers w x there)) in
              let is : x ≡ o.1 =
              some-is x o.1 (sym there ∙ (ap (slice_get crew) (sym place) ∙ o.2)) in
              ap (λ (s : BoardSeatView). s.steps) (sym o.3)
              ∙ ap (λ (y : Seated). (f y).steps) (sym is)
          by-place (inr at) =
              let less = is-within crew w x there in
              let number : length crew ≡ w =
              sym end
              ∙ (ap (λ (s : BoardSeatView). s.number) at ∙ (same ∙ numbers w x there)) in
              absurd (omega (arith, less, number))

  pub seats-last : own_in seats (length crew) ≡ last.steps
  seats-last =
      ap (own_in seats) (sym end)
      ∙ own-there seats last (Contains-push (map f crew) last) only
    where
      only : (z : BoardSeatView) → Contains seats z → z.number ≡ last.number
          → z.steps ≡ last.steps
      only z has same = by-place (Contains-push_cases (map f crew) last z has)
        where
          by-place : Contains (map f crew) z ⊎ (last ≡ z) → z.steps ≡ last.steps
          by-place (inl at) =
              let o = of-crew f crew z at in
              let less = is-within crew o.0 o.1 o.2 in
              let number : o.0 ≡ length crew =
              sym (numbers o.0 o.1 o.2)
              ∙ (ap (λ (s : BoardSeatView). s.number) o.3 ∙ (same ∙ end)) in
              absurd (omega (arith, less, number))
          by-place (inr at) = ap (λ (s : BoardSeatView). s.steps) (sym at)

  -- no other seat than a worker's has put anything, if the last has not
  pub seats-others : puts_of last.steps ≡ [] → (w : ℕ) → length crew ≤ w
      → puts_of (own_in seats w) ≡ []
  seats-others none w more = by-seat (own-cases seats w)
    where
      by-seat : ((z : BoardSeatView) × Contains seats z × (z.number ≡ w)
          × (own_in seats w ≡ z.steps)) ⊎ (own_in seats w ≡ []) → puts_of (own_in seats w) ≡ []
      by-seat (inr empty) = ap puts_of empty
      by-seat (inl (z, has, number, own)) =
          ap puts_of own ∙ by-place (Contains-push_cases (map f crew) last z has)
        where
          by-place : Contains (map f crew) z ⊎ (last ≡ z) → puts_of z.steps ≡ []
          by-place (inl at) =
              let o = of-crew f crew z at in
              let less = is-within crew o.0 o.1 o.2 in
              let place : o.0 ≡ w =
              sym (numbers o.0 o.1 o.2)
              ∙ (ap (λ (s : BoardSeatView). s.number) o.3 ∙ number) in
              absurd (omega (arith, less, place, more))
          by-place (inr at) = ap (λ (s : BoardSeatView). puts_of s.steps) (sym at) ∙ none
