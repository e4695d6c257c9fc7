-- The seats of a run, by the threads that have them, before any step.
use Rattle.std.specs.Prelude.{◌≡◌, ℕ, false, [], ◌∷◌, ◌++◌, length, map}
use Rattle.linearization.specs.Seats.{SeatView, seat_view}
use Rattle.hint_words.specs.declared.step.HintStep.{HintStep}
use Rattle.hop_board.specs.Named.{board_seat}
use Rattle.run_words.specs.declared.seats.Seats.{Seats}
use Rattle.workers.specs.declared.boards.AllSeats.{AllSeats}
use Rattle.workers.specs.declared.boards.RunBoards.{RunBoards}
use Rattle.workers.specs.declared.seats.RunSeats.{RunSeats}

-- These are all the seats, by their numbers: those of so many workers, then the controller's, and
-- at the hint words last the wire's.
pub record AreSeated (all : AllSeats) (workers : ℕ) (s : RunSeats) : Type 0 where
  pub count : length s.workers.items ≡ workers
  pub rx : all.rx.items ≡ map (λ (x : Seats). x.rx) s.workers.items ++ s.controller.rx ∷ []
  pub tx : all.tx.items ≡ map (λ (x : Seats). x.tx) s.workers.items ++ s.controller.tx ∷ []
  pub hints : all.hints.items
      ≡ map (λ (x : Seats). x.hint) s.workers.items ++ s.controller.hint ∷ s.wire ∷ []

-- the seat at the hint words with this number, without a step
abbrev pub first_hint_seat : RunBoards → ℕ → SeatView HintStep
first_hint_seat s number = seat_view s.shared.hints.table number []

-- the seats with this number at both boards and at the hint words, without a step
abbrev pub first_seats : RunBoards → ℕ → Seats
first_seats s number =
    record {
      rx = board_seat (seat_view s.rx.table number []) false;
      tx = board_seat (seat_view s.tx.table number []) false;
      hint = first_hint_seat s number;
    }
