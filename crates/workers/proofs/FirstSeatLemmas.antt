-- The first seats of a run, by their numbers.
use Rattle.atomic_table.specs.Seated.{TableId}
use Rattle.linearization.specs.Seats.{seat_view}
use Rattle.hop_board.specs.Named.{board_seat}
use Rattle.workers.specs.Seats.{first_hint_seat}
use Rattle.workers.proofs.Names.{◌≡◌, ℕ, zero, suc, ◌+◌, false, List, [], ◌∷◌, ◌++◌, Some, length}
use Rattle.workers.proofs.Names.{map, sym, ap, ◌∙◌, arith, slice_get, SeatView, new_seats}
use Rattle.workers.proofs.Names.{none-some, some-is, BoardSeatView, Plan, Seats, AreSeatsOf}
use Rattle.workers.proofs.Names.{AllSeats, RunBoards, Each, AreSeated, first_seats, RunSeats}

-- ---- lists

seat_at : {D : Type 0} (z : TableId) (n count k : ℕ) (x : SeatView D)
    → slice_get (new_seats z n count) k ≡ Some x → x ≡ seat_view z (n + k) []
seat_at z n zero k x got = none-some x got
seat_at z n (suc count) zero x got =
    sym (some-is _ x got) ∙ ap (λ m. seat_view z m []) (omega arith)
seat_at z n (suc count) (suc k) x got =
    seat_at z (n + 1) count k x got ∙ ap (λ m. seat_view z m []) (omega arith)

board_seat_at : (z : TableId) (n count k : ℕ) (x : BoardSeatView)
    → slice_get (map (λ s. board_seat s false) (new_seats z n count)) k ≡ Some x
    → x ≡ board_seat (seat_view z (n + k) []) false
board_seat_at z n zero k x got = none-some x got
board_seat_at z n (suc count) zero x got =
    sym (some-is _ x got) ∙ ap (λ m. board_seat (seat_view z m []) false) (omega arith)
board_seat_at z n (suc count) (suc k) x got =
    board_seat_at z (n + 1) count k x got
    ∙ ap (λ m. board_seat (seat_view z m []) false) (omega arith)

module _ {A B : Type 0} (f : B → A) where
  in_front : (xs : List B) (ys : List A) (k : ℕ) (x : B) → slice_get xs k ≡ Some x
      → slice_get (map f xs ++ ys) k ≡ Some (f x)
  in_front [] ys k x got = none-some x got
  in_front (y ∷ xs) ys zero x got = ap (λ z. Some (f z)) (some-is y x got)
  in_front (y ∷ xs) ys (suc k) x got = in_front xs ys k x got

  behind : (xs : List B) (ys : List A) (k : ℕ)
      → slice_get (map f xs ++ ys) (length xs + k) ≡ slice_get ys k
  behind [] ys k = let none : 0 + k ≡ k = omega arith in ap (slice_get ys) none
  behind (y ∷ xs) ys k =
      let more : suc (length xs) + k ≡ suc (length xs + k) = omega arith in
      ap (slice_get (map f (y ∷ xs) ++ ys)) more ∙ behind xs ys k

same_seats : (x y : Seats) → x.rx ≡ y.rx → x.tx ≡ y.tx → x.hint ≡ y.hint → x ≡ y
same_seats x y rx tx hint = λ i. record { rx = rx i; tx = tx i; hint = hint i }

-- ---- the seats of a run

module _ (plan : Plan) (s : RunBoards) (all : AllSeats) (seats : RunSeats)
    (are : AreSeatsOf plan s all) (seated : AreSeated all plan.workers seats) where
  -- the seats at an index are those of that number
  by_number : (n : ℕ) (x : Seats)
      → slice_get (map (λ (y : Seats). y.rx) seats.workers.items ++ seats.controller.rx ∷ []) n
      ≡ Some x.rx
      → slice_get (map (λ (y : Seats). y.tx) seats.workers.items ++ seats.controller.tx ∷ []) n
      ≡ Some x.tx
      → slice_get (map (λ (y : Seats). y.hint) seats.workers.items
      ++ seats.controller.hint ∷ seats.wire ∷ []) n ≡ Some x.hint → x ≡ first_seats s n
  by_number n x rx tx hint =
      let rx_is =
      board_seat_at s.rx.table 0 (plan.workers + 1) n x.rx
      (ap (λ xs. slice_get xs n) (sym are.rx.are ∙ seated.rx) ∙ rx) in
      let tx_is =
      board_seat_at s.tx.table 0 (plan.workers + 1) n x.tx
      (ap (λ xs. slice_get xs n) (sym are.tx.are ∙ seated.tx) ∙ tx) in
      let hint_is =
      seat_at s.shared.hints.table 0 (plan.workers + 2) n x.hint
      (ap (λ xs. slice_get xs n) (sym are.hints ∙ seated.hints) ∙ hint) in
      same_seats x (first_seats s n)
      (rx_is ∙ ap (λ m. board_seat (seat_view s.rx.table m []) false) (omega arith))
      (tx_is ∙ ap (λ m. board_seat (seat_view s.tx.table m []) false) (omega arith))
      (hint_is ∙ ap (first_hint_seat s) (omega arith))

  pub workers_seats : Each (λ w x. x ≡ first_seats s w) seats.workers.items
  workers_seats w x got =
      by_number w x (in_front (λ (y : Seats). y.rx) _ _ w x got)
      (in_front (λ (y : Seats). y.tx) _ _ w x got)
      (in_front (λ (y : Seats). y.hint) _ _ w x got)

  pub controller_seats : seats.controller ≡ first_seats s plan.workers
  controller_seats =
      let at : length seats.workers.items + 0 ≡ plan.workers =
      let count = seated.count in omega (arith, count) in
      by_number plan.workers seats.controller
      (ap (slice_get (map (λ (y : Seats). y.rx) seats.workers.items
      ++ seats.controller.rx ∷ [])) (sym at)
      ∙ behind (λ (y : Seats). y.rx) seats.workers.items _ 0)
      (ap (slice_get (map (λ (y : Seats). y.tx) seats.workers.items
      ++ seats.controller.tx ∷ [])) (sym at)
      ∙ behind (λ (y : Seats). y.tx) seats.workers.items _ 0)
      (ap (slice_get (map (λ (y : Seats). y.hint) seats.workers.items
      ++ seats.controller.hint ∷ seats.wire ∷ [])) (sym at)
      ∙ behind (λ (y : Seats). y.hint) seats.workers.items _ 0)

  pub wire_seat : seats.wire ≡ first_hint_seat s (plan.workers + 1)
  wire_seat =
      let at : length seats.workers.items + 1 ≡ plan.workers + 1 =
      let count = seated.count in omega (arith, count) in
      seat_at s.shared.hints.table 0 (plan.workers + 2) (plan.workers + 1) seats.wire
      (ap (λ xs. slice_get xs (plan.workers + 1)) (sym are.hints ∙ seated.hints)
      ∙ (ap (slice_get (map (λ (y : Seats). y.hint) seats.workers.items
      ++ seats.controller.hint ∷ seats.wire ∷ [])) (sym at)
      ∙ behind (λ (y : Seats). y.hint) seats.workers.items _ 1))
      ∙ ap (first_hint_seat s) (omega arith)
