-- What the controller works at: the two boards, the hint words, and its seats there.
use Rattle.std.specs.Prelude.{◌≡◌, ℕ, ◌+◌, ◌*◌, ◌<◌, ◌≤◌, length}
use Rattle.steer_base.specs.declared.command.Command.{Command}
use Rattle.steer_base.specs.declared.command.Command.TheVariants as give
use Rattle.steer_base.specs.declared.limits.TheConstants.{MAX_FLOW_COUNT, MAX_SOCKET_SIZE}
use Rattle.rss_table.specs.declared.reta.TheConstants.{RETA_ENTRIES}
use Rattle.plan_reader.specs.declared.limits.TheConstants.{MAX_PLAN_FILTERS}
use Rattle.hop_rule.specs.Boards.{gate_steps}
use Rattle.hop_rule.specs.Gates.{openings}
use Rattle.board_api.specs.Calls.Rights.{HasOpen, IsCloser, IsOutside}
use Rattle.board_api.specs.Seats.{BoardSeatView}
use Rattle.board_api.specs.Views.{BoardView}
use Rattle.steer_model.specs.State.Setup.{Setup}
use Rattle.run_words.specs.Numbers.{word_count}
use Rattle.run_words.specs.declared.shared.Shared.{Shared}
use Rattle.run_words.specs.declared.seats.Seats.{Seats}

-- What all threads share, with the receive board and the transmit board.
pub record Stage : Type 0 where
  pub shared : Shared
  pub rx : BoardView
  pub tx : BoardView

-- The stage of these.
abbrev pub stage : Shared → BoardView → BoardView → Stage
stage shared rx tx = record { shared = shared; rx = rx; tx = tx }

-- The boards have the settings of the setup's queues, the lanes of the receive board are its
-- processors, and the words are those for its packets.
pub record IsStage (s : Stage) : Type 0 where
  pub rx_settings : length s.rx.sizes.settings ≡ 2 * length s.shared.given.homes + 2
  pub rx_lanes : s.rx.sizes.lanes ≡ s.shared.given.cpus
  pub tx_settings : length s.tx.sizes.settings ≡ 2 * s.shared.given.txs
  pub words : s.shared.hints.words ≡ word_count (length s.shared.given.packets)
  pub filters : s.shared.filters ≤ MAX_PLAN_FILTERS

-- ---- seats

-- The seat is the closer's at the board, outside, and its gate is open.
pub record IsSeated (board : BoardView) (seat : BoardSeatView) : Type 0 where
  pub table : seat.table ≡ board.table
  pub closer : IsCloser board.sizes seat.number
  pub outside : IsOutside seat.steps
  pub is_open : HasOpen seat.steps

-- How often a seat has opened the gate of its board.
abbrev pub opened_by : BoardSeatView → ℕ
opened_by seat = openings (gate_steps seat.steps)

-- The seats are the controller's, and it has opened each gate so many times at most.
pub record AreSeated (s : Stage) (most : ℕ) (seats : Seats) : Type 0 where
  pub rx : IsSeated s.rx seats.rx
  pub tx : IsSeated s.tx seats.tx
  pub hint : seats.hint.table ≡ s.shared.hints.table
  pub rx_opened : opened_by seats.rx ≤ most
  pub tx_opened : opened_by seats.tx ≤ most

-- ---- commands

-- The command names only what the setup has, with numbers in range.
abbrev pub IsNamed : Setup → Command → Type 0
IsNamed given (give.Mask q mask) = q < length given.homes
IsNamed given (give.Flows q count) = (q < length given.homes) × (count ≤ MAX_FLOW_COUNT)
IsNamed given (give.Sock size) = size ≤ MAX_SOCKET_SIZE
IsNamed given (give.Offline cpu) = cpu < given.cpus
IsNamed given (give.Online cpu) = cpu < given.cpus
IsNamed given (give.XCpus tx mask) = tx < given.txs
IsNamed given (give.XQueues tx rxqs) = tx < given.txs
IsNamed given (give.Reta entry q) = (entry < RETA_ENTRIES) × (q < length given.homes)
IsNamed given (give.Stand app cpu) = app < given.apps
IsNamed given give.Expire = Unit {0}
