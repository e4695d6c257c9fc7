-- Laws of the boards that a plan begins with.
use Rattle.std.specs.Prelude.{◌≡◌, ℕ, List, Option, length}
use Rattle.steer_base.specs.declared.packet.Packet.{Packet}
use Rattle.history.specs.Lists.{list_at}
use Rattle.history.specs.declared.history.History.{History}
use Rattle.board_api.specs.declared.lists.BoardLists.{BoardLists}
use Rattle.plan_reader.specs.declared.plan.Plan.{Plan}
use Rattle.steer_model.specs.Good.Inputs.{Input}
use Rattle.run_words.specs.Numbers.{word_count}
use Rattle.run_workers.specs.Hands.Pollers.{HasQueueSettings}
use Rattle.run_workers.specs.Hands.Servers.{HasTransmitSettings}
use Rattle.run_coupling.specs.Coupling.Boards.{IsReceiveBoard, IsTransmitBoard}
use Rattle.workers.specs.Boards.{AreBoardsOf, receive_sizes, transmit_sizes}
use Rattle.workers.specs.declared.boards.RunBoards.{RunBoards}

-- The boards of a plan fit each history that begins where the plan does and has the lists that the
-- boards leave.
pub record PlansFitBoards : Type 0 where
  pub receives : (i : Input) (h : History) (lists : BoardLists) → h.start ≡ i.plan.start
      → h.lanes ≡ lists.lanes → h.inboxes ≡ lists.outs
      → IsReceiveBoard i h (receive_sizes i.plan (length i.packets)) lists
  pub transmits : (i : Input) (h : History) (lists : BoardLists) → h.start ≡ i.plan.start
      → h.tx_lanes ≡ lists.lanes → h.port ≡ list_at lists.outs 0
      → IsTransmitBoard i h (transmit_sizes i.plan (length i.packets)) lists

-- What the calls of hands ask for of the boards and the words.
pub record HasItsSettings (s : RunBoards) : Type 0 where
  pub queues : HasQueueSettings s.rx.sizes s.shared.given
  pub cpus : s.rx.sizes.lanes ≡ s.shared.given.cpus
  pub apps : s.rx.sizes.outs ≡ s.shared.given.apps
  pub maps : HasTransmitSettings s.tx.sizes s.shared.given
  pub rooms : s.rx.sizes.room ≡ length s.shared.given.packets
  pub reply_rooms : s.tx.sizes.room ≡ length s.shared.given.packets
  pub words : s.shared.hints.words ≡ word_count (length s.shared.given.packets)

-- The boards and the words of each plan have these.
abbrev pub BoardsHaveSettings : Type 0
BoardsHaveSettings =
    (plan : Plan) (packets : List Packet) (cut : Option ℕ) (s : RunBoards)
    → AreBoardsOf plan packets cut s → HasItsSettings s
