-- The seats of a board before and after the threads.
use Rattle.std.proofs.Common.{◌≡◌, ℕ, zero, suc, ◌+◌, ◌-◌, ◌<◌, false, List, [], ◌∷◌, ◌++◌, All}
use Rattle.std.proofs.Common.{map, take, slice_index_or, sym, refl, ap, ◌∙◌, subst, arith}
use Rattle.std.proofs.lemmas.List.Elements.{All-append, All-cons, All-nil}
use Rattle.atomic_table.specs.Seated.{TableId}
use Rattle.linearization.specs.Seats.{new_seats, seat_view}
use Rattle.hop_rule.specs.declared.sizes.BoardSizes.{BoardSizes}
use Rattle.board_api.specs.Closings.Closings.{IsAtRest}
use Rattle.board_api.specs.Seats.{BoardSeatView}
use Rattle.board_api.specs.Views.{BoardView}
use Rattle.hop_board.specs.Made.{new_board_seats}
use Rattle.hop_board.specs.Named.{board_seat}
use Rattle.board_tests.proofs.rounds.Calls.{rests}
use Rattle.board_tests.specs.Stands.{IsDone, SeatIsOutside}

abbrev pub Seat : Type 0
Seat = BoardSeatView

-- a seat that has made no step
abbrev pub new_seat : TableId → ℕ → Seat
new_seat z number = board_seat (seat_view z number []) false

abbrev seats_from : TableId → ℕ → ℕ → List Seat
seats_from z n k = map (λ s. board_seat s false) (new_seats z n k)

last-from : (z : TableId) (n k : ℕ) (d : Seat)
    → slice_index_or (seats_from z n (suc k)) k d ≡ new_seat z (n + k)
last-from z n zero d = ap (new_seat z) (omega arith)
last-from z n (suc k) d = last-from z (n + 1) k d ∙ ap (new_seat z) (omega arith)

front-from : (z : TableId) (n k : ℕ) → take k (seats_from z n (suc k)) ≡ seats_from z n k
front-from z n zero = refl
front-from z n (suc k) = ap (λ xs. new_seat z n ∷ xs) (front-from z (n + 1) k)

-- the last of all seats, and those before it
pub last_is : (z : TableId) (count : ℕ) (d : Seat) → 0 < count
    → slice_index_or (new_board_seats z count) (count - 1) d ≡ new_seat z (count - 1)
last_is z zero d some = absurd (omega arith)
last_is z (suc k) d some =
    let e : suc k - 1 ≡ k = omega arith in
    let f : 0 + k ≡ suc k - 1 = omega arith in
    ap (λ m. slice_index_or (new_board_seats z (suc k)) m d) e
    ∙ (last-from z 0 k d ∙ ap (new_seat z) f)

pub front_is : (z : TableId) (count : ℕ) → 0 < count
    → take (count - 1) (new_board_seats z count) ≡ new_board_seats z (count - 1)
front_is z zero some = absurd (omega arith)
front_is z (suc k) some =
    let e : suc k - 1 ≡ k = omega arith in
    ap (λ m. take m (new_board_seats z (suc k))) e
    ∙ (front-from z 0 k ∙ ap (new_board_seats z) (sym e))

pub fresh_out : (board : BoardView) (number : ℕ) (seat : Seat)
    → seat ≡ new_seat board.table number → SeatIsOutside board number seat
fresh_out board number seat e =
    subst (SeatIsOutside board number) (sym e)
    record {
      table = refl;
      number_is = refl;
      place_is = refl;
      gate_is = refl;
      lanes = λ l. refl;
      hands = λ l. refl;
      outs = λ o. refl;
    }

-- one seat more that is done
pub all_done : (board : BoardView) (seats : List Seat) (seat : Seat)
    → All (IsDone board) seats → IsDone board seat → All (IsDone board) (seats ++ seat ∷ [])
all_done board seats seat all one =
    All-append (IsDone board) seats (seat ∷ []) all
    (All-cons (IsDone board) seat [] one (All-nil (IsDone board)))

pub all_rest : (board : BoardView) (seats : List Seat) → All (IsDone board) seats
    → All (λ (s : Seat). IsAtRest board.sizes s.steps) seats
all_rest board seats all k d less =
    let s = slice_index_or seats k d in
    rests board s.number s (all k d less)

-- seats that have made no step are at rest
fresh_rests : (about : BoardSizes) → IsAtRest about []
fresh_rests about =
    record {
      visit = refl;
      lanes = λ l less. refl;
      hands = λ l less. refl;
      outs = λ o less. refl;
    }

rest-from : (about : BoardSizes) (z : TableId) (n k : ℕ)
    → All (λ (s : Seat). IsAtRest about s.steps) (seats_from z n k)
rest-from about z n zero = All-nil (λ (s : Seat). IsAtRest about s.steps)
rest-from about z n (suc k) =
    All-cons (λ (s : Seat). IsAtRest about s.steps) (new_seat z n) (seats_from z (n + 1) k)
    (fresh_rests about) (rest-from about z (n + 1) k)

pub new_rest : (about : BoardSizes) (z : TableId) (count : ℕ) (seats : List Seat)
    → seats ≡ new_board_seats z count → All (λ (s : Seat). IsAtRest about s.steps) seats
new_rest about z count seats e =
    subst (All (λ (s : Seat). IsAtRest about s.steps)) (sym e) (rest-from about z 0 count)
