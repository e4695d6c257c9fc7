-- The last of a board's seats before any step.
use Rattle.std.proofs.Common.{◌≡◌, ℕ, zero, suc, ◌+◌, ◌-◌, ◌<◌, false, List, [], ◌∷◌}
use Rattle.std.proofs.Common.{map, take, slice_index_or, sym, refl, ap, ◌∙◌, subst, arith}
use Rattle.atomic_table.specs.Seated.{TableId}
use Rattle.linearization.specs.Seats.{new_seats, seat_view}
use Rattle.board_api.specs.Seats.{BoardSeatView}
use Rattle.board_api.specs.Views.{BoardView}
use Rattle.hop_board.specs.Made.{new_board_seats}
use Rattle.hop_board.specs.Named.{board_seat}
use Rattle.hand_tests.specs.Benches.{IsFresh}

abbrev pub Seat : Type 0
Seat = BoardSeatView

-- a seat that has made no step
abbrev pub new_seat : TableId → ℕ → Seat
new_seat z number = board_seat (seat_view z number []) false

abbrev seats_from : TableId → ℕ → ℕ → List Seat
seats_from z n k = map (λ s. board_seat s false) (new_seats z n k)

last-from : (z : TableId) (n k : ℕ) (d : Seat)
    → slice_index_or (seats_from z n (suc k)) k d ≡ new_seat z (n + k)
last-from z n zero d = ap (new_seat z) (omega arith)
last-from z n (suc k) d = last-from z (n + 1) k d ∙ ap (new_seat z) (omega arith)

front-from : (z : TableId) (n k : ℕ) → take k (seats_from z n (suc k)) ≡ seats_from z n k
front-from z n zero = refl
front-from z n (suc k) = ap (λ xs. new_seat z n ∷ xs) (front-from z (n + 1) k)

-- the last of all seats, and those before it
pub last_is : (z : TableId) (count : ℕ) (d : Seat) → 0 < count
    → slice_index_or (new_board_seats z count) (count - 1) d ≡ new_seat z (count - 1)
last_is z zero d some = absurd (omega arith)
last_is z (suc k) d some =
    let e : suc k - 1 ≡ k = omega arith in
    let f : 0 + k ≡ suc k - 1 = omega arith in
    ap (λ m. slice_index_or (new_board_seats z (suc k)) m d) e
    ∙ (last-from z 0 k d ∙ ap (new_seat z) f)

pub front_is : (z : TableId) (count : ℕ) → 0 < count
    → take (count - 1) (new_board_seats z count) ≡ new_board_seats z (count - 1)
front_is z zero some = absurd (omega arith)
front_is z (suc k) some =
    let e : suc k - 1 ≡ k = omega arith in
    ap (λ m. take m (new_board_seats z (suc k))) e
    ∙ (front-from z 0 k ∙ ap (new_board_seats z) (sym e))

pub fresh_is : (board : BoardView) (number : ℕ) (seat : Seat)
    → seat ≡ new_seat board.table number → IsFresh board number seat
fresh_is board number seat e =
    subst (IsFresh board number) (sym e)
    (record { table = refl; number_is = refl; steps = refl })
