-- What an application's record tells of it at the closing of the boards.
use Rattle.std.specs.Prelude.{◌≡◌, ℕ, ◌<◌, List, Option, Some, None, All, length, map, slice_get}
use Rattle.std.specs.List.{Contains}
use Rattle.linearization.specs.Orders.{StepBy, steps_of}
use Rattle.linearization.specs.Seats.{SeatView}
use Rattle.steer_base.specs.Choices.{class_of}
use Rattle.steer_base.specs.declared.limits.TheConstants.{MAX_SOCKET_SIZE}
use Rattle.history.specs.declared.history.History.{History}
use Rattle.history.specs.declared.sent.Sent.{Sent}
use Rattle.history.specs.declared.sock_write.SockWrite.{SockWrite}
use Rattle.hint_words.specs.declared.step.HintStep.{HintStep}
use Rattle.hop_rule.specs.Moments.{nth_step}
use Rattle.hop_rule.specs.declared.sizes.BoardSizes.{BoardSizes}
use Rattle.hop_rule.specs.declared.step.BoardStep.{BoardStep}
use Rattle.hop_delivery.specs.Closings.TurnReads.{KnowsMaps}
use Rattle.hop_delivery.specs.Orders.Runs.{Execution, turns_of}
use Rattle.hop_delivery.specs.Orders.TransmitSettings.{pick_by, transmit_steering}
use Rattle.hop_delivery.specs.Orders.Turns.{Turn}
use Rattle.steer_model.specs.Good.Inputs.{Input, setup_in}
use Rattle.steer_model.specs.State.Setup.{flow_number_of, packet_hash}
use Rattle.run_workers.specs.Hands.Servers.{HasFlowsBelow}
use Rattle.run_workers.specs.declared.server.Server.{Server}
use Rattle.run_coupling.specs.Laws.SharedCodes.{AreShared}
use Rattle.run_coupling.specs.Coupling.Applications.{FitTransmitWords, WasFoundAt}
use Rattle.run_coupling.specs.Coupling.Ends.{AllArrived}
use Rattle.run_coupling.specs.Coupling.Hints.{AreRecorded, CameBy, HintCodes, Stands, WasRead}
use Rattle.run_coupling.specs.Coupling.OwnTables.{IsByTable}
use Rattle.run_words.specs.Lists.{oldest_first}
use Rattle.run_workers.specs.Records.Replying.{IsReplying, RepliedTurn}
use Rattle.run_workers.specs.Records.Words.{Note}

-- The values of the setting words that a turn has read, if there is one.
abbrev pub words_of_reply : Option RepliedTurn → ℕ → ℕ
words_of_reply None word = 0
words_of_reply (Some r) word = r.words word

-- The values that the k-th turn has read.
abbrev pub maps_seen : List RepliedTurn → ℕ → ℕ → ℕ
maps_seen replied k = words_of_reply (nth_step replied k)

-- The write was made for the packet of the reply with this index: it is at the entry of the
-- packet's hash, and of a processor that there is.
pub record IsNoteFor (i : Input) (sent : List Sent) (k : ℕ) (note : Note) : Type 0 where
  pub reply : Sent
  pub for : slice_get sent k ≡ Some reply
  pub packet : reply.id ≡ note.packet
  pub size : ℕ
  pub entry : class_of size (packet_hash (setup_in i) reply.id) ≡ Some note.write.entry
  pub entry_within : note.write.entry < MAX_SOCKET_SIZE
  pub cpu_within : note.write.cpu < i.plan.cpus

-- These writes are those that were noted, each made for another reply's packet, in their order,
-- by a size that was read in a visit.
pub record AreMadeFor (i : Input) (h : History) (rx_own : ℕ → List BoardStep) (c : HintCodes)
    (seats : List (SeatView HintStep)) (sent : List Sent) (writes : List SockWrite)
    (notes : List Note) (reply : (write : ℕ) → ℕ) : Type 0 where
  pub are : writes ≡ map (λ (n : Note). n.write) notes
  pub rise : (m n : ℕ) → m < n → n < length notes → reply m < reply n
  pub each : (n : ℕ) (note : Note) → slice_get notes n ≡ Some note
      → IsNoteFor i sent (reply n) note
  pub read : (n : ℕ) (note : Note) (at : slice_get notes n ≡ Some note)
      → WasRead i h c seats rx_own (each n note at).size

-- The coupling invariants of application a with its turns, replies and writes: it found each packet
-- at its place in the inbox; each turn knows all maps, of which `seen` are the values; if they are
-- within their ranges, it wants the queue that they pick; and its choice is by the application's
-- own table. The queue and the processor of each reply, and what was written for each packet, are
-- as they were loaded and read. The writes are those noted of the application, the n-th of them
-- made for the reply with the index `reply n`.
pub record IsApplicationCoupled (i : Input) (h : History) (rx_own : ℕ → List BoardStep)
    (about : BoardSizes) (own : List BoardStep) (c : HintCodes)
    (seats : List (SeatView HintStep)) (t : Execution) (a : ℕ) (noted : List (StepBy Note))
    (sent : List Sent) (writes : List SockWrite) (seen : ℕ → ℕ → ℕ) (reply : ℕ → ℕ)
    : Type 0 where
  pub found : (k : ℕ) (s : Sent) → slice_get sent k ≡ Some s → WasFoundAt rx_own a k s.id
  pub knows : (k : ℕ) (u : Turn) → nth_step (turns_of t a) k ≡ Some u
      → KnowsMaps own (length i.plan.tx) u (seen k)
  pub picks : (k : ℕ) (u : Turn) (s : Sent) → nth_step (turns_of t a) k ≡ Some u
      → slice_get sent k ≡ Some s
      → FitTransmitWords i.plan.cpus (length i.plan.queues) (length i.plan.tx) (seen k)
      → u.chosen.choice.want
      ≡ Some (pick_by (length i.plan.tx) (seen k) s.rxq s.cpu (packet_hash (setup_in i) s.id))
  pub by_table : (k : ℕ) (u : Turn) → nth_step (turns_of t a) k ≡ Some u
      → IsByTable about.start t (transmit_steering (flow_number_of (setup_in i))) seen a k u
  pub queues : All (λ (s : Sent). CameBy i h c seats s.id s.rxq) sent
  pub stands : All (λ (s : Sent). Stands i h c seats a s.cpu) sent
  pub writes_are : AreRecorded i h c seats rx_own a (map (λ (s : Sent). s.id) sent) writes
  pub made : a < length i.plan.apps
      → AreMadeFor i h rx_own c seats sent writes (oldest_first (steps_of a noted)) reply

-- The record of an application with an empty hand, over the turns of its seat, gives its coupling
-- invariants.
abbrev pub ApplicationsAreCoupled : Type 0
ApplicationsAreCoupled =
    (i : Input) (h : History) (rx_own : ℕ → List BoardStep) (rx_seat : ℕ) (about : BoardSizes)
    (own : List BoardStep) (c : HintCodes) (seats : List (SeatView HintStep))
    (seat : SeatView HintStep) (t : Execution) (rows : ℕ) (s : Server)
    (noted : List (StepBy Note))
    (x : IsReplying (setup_in i) rows about.start h.arrivals s (t.turns (t.seat s.app)) noted
    (rx_own rx_seat) own seat.steps)
    → AllArrived i h → HasFlowsBelow (setup_in i) s.sent.room rows
    → slice_get i.plan.apps s.app ≡ Some s.home → AreShared c → Contains seats seat
    → s.hand ≡ None
    → (reply : ℕ → ℕ) × IsApplicationCoupled i h rx_own about own c seats t s.app noted
    s.sent.items s.writes.items (maps_seen x.replied) reply
