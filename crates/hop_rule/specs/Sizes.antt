-- The sizes of a board.
use Rattle.std.specs.Prelude.{ℕ, ◌-◌, ◌%◌, ◌<◌, ◌≤◌, ◌^◌, max}
use Rattle.hop_rule.specs.declared.sizes.BoardSizes.{BoardSizes}
use Rattle.hop_rule.specs.declared.sizes.TheConstants.{MAX_BOARD_ROOM}

-- The sizes that a board may have.
pub record FitSizes (about : BoardSizes) : Type 0 where
  pub room : about.room ≤ MAX_BOARD_ROOM
  pub start : about.start < 2 ^ 32
  pub lanes : about.lanes ≤ 32
  pub some_seat : 1 ≤ about.seats
  pub seats : about.seats ≤ 64

-- The number of the one seat that closes the gate and makes settings: the last seat.
abbrev pub closer : BoardSizes → ℕ
closer about = about.seats - 1

-- The number of the one seat that pulls from a middle lane, delivers its packets and retires them.
abbrev pub puller : BoardSizes → ℕ → ℕ
puller about l = l % max 1 (about.seats - 1)
