-- The seats that close a board, and those that close the hint words.
use Rattle.std.specs.Prelude.{◌≡◌, ◌+◌, ◌<◌, All, length}
use Rattle.linearization.specs.Seats.{SeatView}
use Rattle.steer_base.specs.Journals.{Journal}
use Rattle.hint_words.specs.Views.{HintsView}
use Rattle.hint_words.specs.declared.step.HintStep.{HintStep}
use Rattle.board_api.specs.Closings.Closings.{IsAtRest}
use Rattle.board_api.specs.Seats.{BoardSeatView}
use Rattle.board_api.specs.Views.{BoardView}

-- The seat is one of this board's, and rests.
pub record IsLast (board : BoardView) (seat : BoardSeatView) : Type 0 where
  pub table : seat.table ≡ board.table
  pub rests : IsAtRest board.sizes seat.steps

-- With the last one these are all seats of the board, each rests, and the list has room for it.
pub record FillBoard (board : BoardView) (seats : Journal BoardSeatView) (last : BoardSeatView)
    : Type 0 where
  pub room : length seats.items < seats.room
  pub all : length seats.items + 1 ≡ board.sizes.seats
  pub are_last : All (λ s. IsLast board s) seats.items
  pub is_last : IsLast board last

-- With those of the controller and of the wire these are all seats of the words, and the list has
-- room for both.
pub record FillWords (hints : HintsView) (seats : Journal (SeatView HintStep))
    (controller wire : SeatView HintStep) : Type 0 where
  pub room : length seats.items + 1 < seats.room
  pub all : length seats.items + 2 ≡ hints.seats
  pub workers : All (λ s. s.table ≡ hints.table) seats.items
  pub by_controller : controller.table ≡ hints.table
  pub by_wire : wire.table ≡ hints.table
