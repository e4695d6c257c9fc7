-- What the boards of a run and the words that its threads share begin as, by its plan and packets.
use Rattle.std.specs.Prelude.{◌≡◌, ℕ, ◌+◌, List, Option, length, All}
use Rattle.std.specs.Vec.{vec_len}
use Rattle.linearization.specs.Seats.{SeatView, new_seats}
use Rattle.steer_base.specs.declared.packet.Packet.{Packet}
use Rattle.hop_model.specs.declared.shape.TheConstants.{MAX_HOP_ROOM}
use Rattle.hint_words.specs.declared.step.HintStep.{HintStep}
use Rattle.hop_rule.specs.declared.sizes.BoardSizes.{BoardSizes}
use Rattle.board_api.specs.Seats.{BoardSeatView}
use Rattle.board_api.specs.Views.{BoardView}
use Rattle.hop_board.specs.Made.{new_board_seats}
use Rattle.plan_reader.specs.declared.plan.Plan.{Plan}
use Rattle.steer_model.specs.State.Start.{setup_of}
use Rattle.run_words.specs.First.{first_receive_settings, first_transmit_settings}
use Rattle.run_words.specs.Numbers.{word_count}
use Rattle.workers.specs.declared.boards.RunBoards.{RunBoards}
use Rattle.workers.specs.declared.boards.AllSeats.{AllSeats}

-- The receive board of a plan, for so many packets: a middle lane for each processor, an out lane
-- for each application, and a seat for each worker and for the controller.
abbrev pub receive_sizes : Plan → ℕ → BoardSizes
receive_sizes plan packets =
    record {
      lanes = plan.cpus;
      outs = length plan.apps;
      limit = plan.backlog;
      room = packets;
      start = plan.start;
      limited = plan.limited;
      settings = first_receive_settings plan;
      seats = plan.workers + 1;
    }

-- The transmit board of a plan, for so many packets: a middle lane for each transmit queue, which
-- is never full, one out lane, and seats as at the receive board.
abbrev pub transmit_sizes : Plan → ℕ → BoardSizes
transmit_sizes plan packets =
    record {
      lanes = length plan.tx;
      outs = 1;
      limit = MAX_HOP_ROOM;
      room = packets;
      start = plan.start;
      limited = record { 0 = 0 };
      settings = first_transmit_settings plan;
      seats = plan.workers + 1;
    }

-- The boards and the words are those of a plan and of the packets of a capture, before any step.
pub record AreBoardsOf (plan : Plan) (packets : List Packet) (cut : Option ℕ) (s : RunBoards)
    : Type 0 where
  pub rx : s.rx.sizes ≡ receive_sizes plan (length packets)
  pub tx : s.tx.sizes ≡ transmit_sizes plan (length packets)
  pub given : s.shared.given ≡ setup_of plan packets cut
  pub filters : s.shared.filters ≡ plan.filters
  pub words : s.shared.hints.words ≡ word_count (length packets)
  pub word_seats : s.shared.hints.seats ≡ plan.workers + 2

-- Seats of a board before any step: so many, by their numbers.
pub record AreSeatsAt (count : ℕ) (board : BoardView) (seats : List BoardSeatView)
    : Type 0 where
  pub are : seats ≡ new_board_seats board.table count
  pub here : All (λ (s : BoardSeatView). s.table ≡ board.table) seats

-- All seats of a run before any step: at each board one for each worker and for the controller,
-- at the words besides one for the wire.
pub record AreSeatsOf (plan : Plan) (s : RunBoards) (seats : AllSeats) : Type 0 where
  pub rx : AreSeatsAt (plan.workers + 1) s.rx seats.rx.items
  pub rx_count : vec_len seats.rx ≡ plan.workers + 1
  pub tx : AreSeatsAt (plan.workers + 1) s.tx seats.tx.items
  pub tx_count : vec_len seats.tx ≡ plan.workers + 1
  pub hints : seats.hints.items ≡ new_seats s.shared.hints.table 0 (plan.workers + 2)
  pub hints_here : All (λ (h : SeatView HintStep). h.table ≡ s.shared.hints.table) seats.hints.items
  pub hints_count : vec_len seats.hints ≡ plan.workers + 2
