-- An application at its two boards, between two calls.
use Rattle.std.specs.Prelude.{◌≡◌, ◌≤◌, ◌<◌, ◌+◌, ℕ, length}
use Rattle.linearization.specs.Seats.{SeatView}
use Rattle.hint_words.specs.declared.step.HintStep.{HintStep}
use Rattle.hop_rule.specs.declared.sizes.BoardSizes.{BoardSizes}
use Rattle.board_api.specs.Seats.{BoardSeatView}
use Rattle.board_api.specs.Views.{BoardView}
use Rattle.run_words.specs.Numbers.{word_count}
use Rattle.run_workers.specs.Hands.Pollers.{HasQueueSettings}
use Rattle.run_workers.specs.Hands.Servers.{HasTransmitSettings, IsServer, KeepsMaps}
use Rattle.run_workers.specs.declared.server.Server.{Server}
use Rattle.run_words.specs.declared.shared.Shared.{Shared}
use Rattle.hand_tests.specs.Benches.{Rests, opened_by}

-- The seat with this number and the closer's, which is the next and the last, rest at the board.
-- The closer has opened the gate at most so many times.
pub record IsDesk (number : ℕ) (board : BoardView) (seat closer : BoardSeatView) (openings : ℕ)
    : Type 0 where
  pub seats : board.sizes.seats ≡ number + 2
  pub settings : 0 < length board.sizes.settings
  pub rests : Rests board number seat
  pub closer_rests : Rests board (number + 1) closer
  pub opened : opened_by closer ≤ openings

-- The application may take the packets of its inbox, and reply to them, at boards of these sizes.
pub record IsClerk (receive transmit : BoardSizes) (shared : Shared) (hint : SeatView HintStep)
    (server : Server) : Type 0 where
  pub hint_table : hint.table ≡ shared.hints.table
  pub words : word_count server.sent.room ≤ shared.hints.words
  pub app : server.app < receive.outs
  pub settings : HasQueueSettings receive shared.given
  pub room : server.sent.room ≡ receive.room
  pub maps : HasTransmitSettings transmit shared.given
  pub reply_room : server.sent.room ≡ transmit.room
  pub is : IsServer shared.given server

-- The application may take and reply, its seats and the closers' rest, and it keeps maps that its
-- seat read.
pub record IsOffice (shared : Shared) (hint : SeatView HintStep) (server : Server)
    (receive : BoardView) (receive_seat receive_closer : BoardSeatView)
    (transmit : BoardView) (transmit_seat transmit_closer : BoardSeatView) (openings : ℕ)
    : Type 0 where
  pub clerk : IsClerk receive.sizes transmit.sizes shared hint server
  pub takes : IsDesk 2 receive receive_seat receive_closer openings
  pub replies : IsDesk 0 transmit transmit_seat transmit_closer openings
  pub kept : KeepsMaps shared.given server.kept transmit_seat.steps
