-- A law of the orders of steps is a law of each closing: the own lists in the seats are those of
-- the order, and the lists that are left are its lists.
use Rattle.std.proofs.Common.{zero, map, All}
use Rattle.std.specs.List.{Contains}
use Rattle.std.proofs.lemmas.List.Elements.{All-cons, All-head, All-nil, All-tail}
use Rattle.std.proofs.lemmas.List.FromFn.{get_or-range_with_len, length-range_with_len}
use Rattle.atomic_table.specs.Seated.{TableId}
use Rattle.linearization.specs.Orders.{steps_of}
use Rattle.linearization.specs.Seats.{SeatView, ArePartsOf, HasPart, IsByOne, numbers_of}
use Rattle.board_api.specs.Closings.Closings.{AtEachClosing, EachOrderCloses, own_in, seat_in}
use Rattle.board_api.specs.Closings.Closings.{seats_in}
use Rattle.board_api.specs.Seats.{BoardSeatView, ordered_seat}
use Rattle.board_api.proofs.Names.{◌≡◌, ◌≢◌, ℕ, suc, ◌+◌, ◌<◌, List, [], ◌∷◌, sym, refl, ap, ◌∙◌}
use Rattle.board_api.proofs.Names.{subst, arith, range_with_len, dite, ℕ_discrete, StepBy, if_same}
use Rattle.board_api.proofs.Names.{if_other, steps_of_other, IsLawful, own_of, FitSizes, BoardSizes}
use Rattle.board_api.proofs.Names.{BoardStep, lists_of, BoardLists}

abbrev Order : Type 0
Order = List (StepBy BoardStep)

abbrev Views : List BoardSeatView → List (SeatView BoardStep)
Views seats = map ordered_seat seats

-- a number that no seat has has no step
none_of : (seats : List (SeatView BoardStep)) (q : ℕ) (order : Order) → All (IsByOne seats) order
    → (Contains (numbers_of seats) q → ⊥) → steps_of q order ≡ []
none_of seats q [] all apart = refl
none_of seats q (e ∷ es) all apart =
    steps_of_other q e.by e.step es
    (λ is. apart (subst (Contains (numbers_of seats)) is (All-head (IsByOne seats) e es all)))
    ∙ none_of seats q es (All-tail (IsByOne seats) e es all) apart

elsewhere : (x q : ℕ) (xs : List ℕ) → x ≢ q → (Contains xs q → ⊥) → Contains (x ∷ xs) q → ⊥
elsewhere x q xs ne apart (zero, l, at) = ne at
elsewhere x q xs ne apart (suc k, l, at) = apart (k, omega arith, at)

-- the own list of a number is that of the first seat with it, or none
own_is : (order : Order) (q : ℕ) (seats : List BoardSeatView) → All (HasPart order) (Views seats)
    → ((Contains (numbers_of (Views seats)) q → ⊥) → steps_of q order ≡ [])
    → own_in seats q ≡ steps_of q order
own_is order q [] parts none = sym (none (λ h. let l = h.1 in absurd (omega arith)))
own_is order q (s ∷ seats) parts none =
    dite (ℕ_discrete s.number q)
    (λ e.
    if_same s.number q s.steps (own_in seats q) e
    ∙ (All-head (HasPart order) (ordered_seat s) (Views seats) parts
    ∙ ap (λ n. steps_of n order) e))
    (λ ne.
    if_other s.number q s.steps (own_in seats q) ne
    ∙ own_is order q seats (All-tail (HasPart order) (ordered_seat s) (Views seats) parts)
    (λ apart. none (elsewhere s.number q (numbers_of (Views seats)) ne apart)))

-- the own lists of a closing are the parts of its order
pub own_parts : (order : Order) (seats : List BoardSeatView) → ArePartsOf order (Views seats)
    → own_in seats ≡ own_of order
own_parts order seats parts =
    λ i q. own_is order q seats parts.each (none_of (Views seats) q order parts.whole) i

-- It holds of the parts of each lawful order and of what the order leaves.
abbrev pub AtEachOrder : (BoardSizes → (ℕ → List BoardStep) → BoardLists → Type 0) → Type 0
AtEachOrder Holds =
    (about : BoardSizes) (order : Order) → FitSizes about → IsLawful about order
    → Holds about (own_of order) (lists_of about order)

pub at_closings : (Holds : BoardSizes → (ℕ → List BoardStep) → BoardLists → Type 0)
    → AtEachOrder Holds → AtEachClosing Holds
at_closings Holds law about seats lists e =
    let both : (own_of e.order, lists_of about e.order) ≡ (own_in seats, lists) =
    λ i. (sym (own_parts e.order seats e.parts) i, sym e.leaves i) in
    subst (λ (z : (ℕ → List BoardStep) × BoardLists). Holds about z.0 z.1) both
    (law about e.order e.sizes e.lawful)

-- ---- each lawful order may be that of a closing

numbers-in : (table : TableId) (order : Order) (a n : ℕ)
    → numbers_of (Views (map (seat_in table order) (range_with_len a n))) ≡ range_with_len a n
numbers-in table order a zero = refl
numbers-in table order a (suc n) = ap (λ xs. a ∷ xs) (numbers-in table order (a + 1) n)

parts-in : (table : TableId) (order : Order) (a n : ℕ)
    → All (HasPart order) (Views (map (seat_in table order) (range_with_len a n)))
parts-in table order a zero = All-nil (HasPart order)
parts-in table order a (suc n) =
    All-cons (HasPart order) (ordered_seat (seat_in table order a))
    (Views (map (seat_in table order) (range_with_len (a + 1) n))) refl
    (parts-in table order (a + 1) n)

module _ (table : TableId) (about : BoardSizes) (order : Order) where
  abbrev seats : List BoardSeatView
  seats = seats_in table about order

  has_number : (q : ℕ) → q < about.seats → Contains (numbers_of (Views seats)) q
  has_number q less =
      subst (λ xs. Contains xs q) (sym (numbers-in table order 0 about.seats))
      (let n = length-range_with_len 0 about.seats in
      (q, omega arith, get_or-range_with_len 0 about.seats q q less ∙ omega arith))

  by_ones : (es : Order) → IsLawful about es → All (IsByOne (Views seats)) es
  by_ones [] lawful = All-nil (IsByOne (Views seats))
  by_ones (e ∷ es) lawful =
      All-cons (IsByOne (Views seats)) e es (has_number e.by lawful.0) (by_ones es lawful.2)

pub each_order_closes : EachOrderCloses
each_order_closes table about order fit lawful =
    let parts : ArePartsOf order (Views (seats_in table about order)) =
    record {
      each = parts-in table order 0 about.seats;
      whole = by_ones table about order order lawful;
    } in (
      record { order = order; sizes = fit; lawful = lawful; parts = parts; leaves = refl },
      own_parts order (seats_in table about order) parts,
    )
