-- What a poller's record tells of its receive queue at the closing of the board.
use Rattle.std.specs.Prelude.{◌≡◌, ℕ, ◌+◌, ◌*◌, ◌<◌, ◌≤◌, ◌==◌, List, Option, Some, None, length}
use Rattle.std.specs.Prelude.{if◌then◌else◌}
use Rattle.std.specs.List.{Contains}
use Rattle.linearization.specs.Orders.{StepBy, steps_of}
use Rattle.linearization.specs.Seats.{SeatView}
use Rattle.hint_words.specs.declared.step.HintStep.{HintStep}
use Rattle.hop_rule.specs.Moments.{nth_step}
use Rattle.hop_rule.specs.declared.sizes.BoardSizes.{BoardSizes}
use Rattle.hop_rule.specs.declared.step.BoardStep.{BoardStep}
use Rattle.hop_delivery.specs.Closings.TurnReads.{HasSeen, Knows}
use Rattle.hop_delivery.specs.Orders.ReceiveSettings.{receive_steering, socket_word}
use Rattle.hop_delivery.specs.Orders.Runs.{Execution, turns_of}
use Rattle.hop_delivery.specs.Orders.Turns.{Turn}
use Rattle.steer_model.specs.Good.Inputs.{Input, setup_in}
use Rattle.steer_model.specs.State.Setup.{packet_hash}
use Rattle.run_workers.specs.declared.poller.Poller.{Poller}
use Rattle.run_workers.specs.declared.poller.Reading.{Reading}
use Rattle.run_coupling.specs.Laws.SharedCodes.{AreShared}
use Rattle.run_coupling.specs.Coupling.Hints.{HasWants, HintCodes}
use Rattle.run_coupling.specs.Coupling.Inputs.{FlowsHaveOneHash, receive_queues}
use Rattle.run_coupling.specs.Coupling.OwnTables.{IsByTable}
use Rattle.run_coupling.specs.Coupling.Queues.{FitReceiveWords}
use Rattle.run_workers.specs.Records.Polling.{IsPolling, PolledTurn}
use Rattle.run_workers.specs.Records.Words.{Mark}

-- The values of the setting words that a poller of queue q has read, by word, of so many queues.
abbrev pub words_read : (queues queue : ℕ) → Reading → (word : ℕ) → ℕ
words_read queues q r word =
    if word == q then r.mask else
    if word == queues + q then r.flows else
    if word == 2 * queues then r.socket else
    if word == 2 * queues + 1 then r.online else 0

-- The same of a turn, if there is one.
abbrev pub words_of_turn : (queues queue : ℕ) → Option PolledTurn → (word : ℕ) → ℕ
words_of_turn queues q None word = 0
words_of_turn queues q (Some s) word = words_read queues q s.reading word

-- The values that the k-th turn has read.
abbrev pub words_seen : (queues queue : ℕ) → List PolledTurn → (turn word : ℕ) → ℕ
words_seen queues q polled k = words_of_turn queues q (nth_step polled k)

-- The coupling invariants of queue p with its turns: each packet is put with its hash; each turn
-- knows its settings, of which `seen` are the values; if they are within their ranges, the choice
-- is by the queue's own table; and its wants were loaded, by the socket size that the turn read.
pub record IsQueueCoupled (i : Input) (about : BoardSizes) (own : List BoardStep) (c : HintCodes)
    (seats : List (SeatView HintStep)) (t : Execution) (p : ℕ) (seen : ℕ → ℕ → ℕ) : Type 0 where
  pub hashes : (k : ℕ) (u : Turn) → nth_step (turns_of t p) k ≡ Some u
      → u.hash ≡ packet_hash (setup_in i) u.chosen.id
  pub knows : (k : ℕ) (u : Turn) → nth_step (turns_of t p) k ≡ Some u
      → HasSeen own (receive_queues i) p u (seen k)
  pub knows_sock : (k : ℕ) (u : Turn) → nth_step (turns_of t p) k ≡ Some u
      → Knows own u (socket_word (receive_queues i)) (seen k (socket_word (receive_queues i)))
  pub by_table : (k : ℕ) (u : Turn) → nth_step (turns_of t p) k ≡ Some u
      → FitReceiveWords (receive_queues i) i.plan.cpus p (seen k)
      → IsByTable about.start t (receive_steering (receive_queues i)) seen p k u
  pub wants : p < length i.plan.queues → HasWants i c seats t p seen

-- The wants of queue p were looked up at this seat, and of its marks those of the queue are those
-- of the queue's turns, in their order.
pub record IsMarkedBy (i : Input) (c : HintCodes) (seats : List (SeatView HintStep))
    (t : Execution) (p : ℕ) (seen : ℕ → ℕ → ℕ) (wants : HasWants i c seats t p seen)
    (seat : SeatView HintStep) (marks : List (StepBy Mark)) : Type 0 where
  pub seat_is : wants.seat ≡ seat
  pub each : (k : ℕ) (m : Mark) → nth_step (steps_of p marks) k ≡ Some m
      → (u : Turn) × (nth_step (turns_of t p) k ≡ Some u) × (u.chosen.id ≡ m.packet)
      × (wants.mark k ≡ m.number)

-- A poller's record over the turns and marks of its seat gives the coupling invariants of its
-- queue.
abbrev pub PollersAreCoupled : Type 0
PollersAreCoupled =
    (i : Input) (about : BoardSizes) (own : List BoardStep) (c : HintCodes)
    (seats : List (SeatView HintStep)) (seat : SeatView HintStep) (t : Execution) (first : ℕ)
    (p : Poller) (marks : List (StepBy Mark))
    (x : IsPolling (setup_in i) first about.start p (t.turns (t.seat p.queue)) marks own
    seat.steps)
    → FlowsHaveOneHash i → p.choices.room ≤ length i.packets
    → p.queue < length (setup_in i).homes → AreShared c → Contains seats seat
    → (q : IsQueueCoupled i about own c seats t p.queue
    (words_seen (length (setup_in i).homes) p.queue x.polled))
    × ((less : p.queue < length i.plan.queues) → IsMarkedBy i c seats t p.queue
    (words_seen (length (setup_in i).homes) p.queue x.polled) (q.wants less) seat marks)
