-- The threads of a test board, and how they begin.
use Rattle.std.specs.Prelude.{◌≡◌, ℕ, ◌+◌, ◌<◌, ◌≤◌, length}
use Rattle.hop_rule.specs.declared.sizes.BoardSizes.{BoardSizes}
use Rattle.board_api.specs.Calls.Rights.{IsCloser}
use Rattle.board_api.specs.Seats.{BoardSeatView}
use Rattle.board_api.specs.Views.{BoardView}
use Rattle.board_tests.specs.Stands.{SeatIsOutside, opened_by}

-- A board of four lanes and two out lanes, with one seat for each worker and one for the closer,
-- and at least one setting.
pub record IsWide (about : BoardSizes) (workers : ℕ) : Type 0 where
  pub lanes : about.lanes ≡ 4
  pub outs : about.outs ≡ 2
  pub room : about.room ≡ 40000
  pub settings : 0 < length about.settings
  pub some_worker : 0 < workers
  pub few : workers ≤ 4
  pub seats : about.seats ≡ workers + 1

-- The seat of one of the workers, outside, with no packet in hand.
pub record IsReady (board : BoardView) (number workers : ℕ) (seat : BoardSeatView)
    : Type 0 where
  pub within : number < workers
  pub stands : SeatIsOutside board number seat

-- The seat of one of the workers at a wide board, outside, with no packet in hand.
pub record MayWork (board : BoardView) (number workers : ℕ) (seat : BoardSeatView)
    : Type 0 where
  pub wide : IsWide board.sizes workers
  pub ready : IsReady board number workers seat

-- The closer's seat, outside, which has not opened the gate, at a board with a setting.
pub record MayKeep (board : BoardView) (seat : BoardSeatView) : Type 0 where
  pub closer : IsCloser board.sizes seat.number
  pub setting : 0 < length board.sizes.settings
  pub opened : opened_by seat ≡ 0
  pub stands : SeatIsOutside board seat.number seat
