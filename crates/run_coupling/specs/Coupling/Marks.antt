-- In which order the threads made their steps at the words of packets, by which a want is seen only
-- after the packet of its write was steered, and a filter only after the packet that set it
-- arrived.
use Rattle.std.specs.Prelude.{ℕ, ◌≡◌, ◌≢◌, ◌⊎◌, ◌<◌, ◌≤◌, List, Some, length, slice_get}
use Rattle.std.specs.List.{Contains}
use Rattle.linearization.specs.Seats.{SeatView}
use Rattle.hint_words.specs.Closings.{IsWrittenBy}
use Rattle.hint_words.specs.declared.step.HintStep.{HintStep}
use Rattle.hint_words.specs.declared.step.HintStep.TheVariants.{Load, Store}
use Rattle.hop_rule.specs.Moments.{nth_step}
use Rattle.hop_rule.specs.declared.step.BoardStep.{BoardStep}
use Rattle.hop_delivery.specs.Orders.Runs.{Execution, turns_of}
use Rattle.hop_delivery.specs.Orders.Turns.{Turn}
use Rattle.history.specs.Lists.{list_at}
use Rattle.history.specs.Regular.{route_of}
use Rattle.history.specs.declared.arrival.Arrival.{Arrival}
use Rattle.history.specs.declared.history.History.{History}
use Rattle.history.specs.declared.sent.Sent.{Sent}
use Rattle.history.specs.declared.sock_write.SockWrite.{SockWrite}
use Rattle.steer_base.specs.Arrivals.{filter_place, route}
use Rattle.steer_base.specs.Choices.{class_of}
use Rattle.steer_base.specs.declared.command.Command.TheVariants as give
use Rattle.steer_base.specs.declared.filter.Filter.{Filter}
use Rattle.steer_base.specs.declared.limits.TheConstants.{MAX_SOCKET_SIZE}
use Rattle.steer_model.specs.Good.Inputs.{Input, WasDone, setup_in}
use Rattle.steer_model.specs.State.Setup.{packet_hash}
use Rattle.run_coupling.specs.Coupling.Hints.{HintCodes, WantsAreLoaded, WasFiltered, WasRead}

-- Before its step n the seat loaded this word, which was set.
pub record FoundSet (seat : SeatView HintStep) (word n : ℕ) : Type 0 where
  pub step : ℕ
  pub earlier : step < n
  pub value : ℕ
  pub loads : nth_step seat.steps step ≡ Some (Load word value)
  pub set : value ≢ 0

module _ (i : Input) (h : History) (c : HintCodes) (seats : List (SeatView HintStep)) where
  -- With this step the wire loaded the filter that this arrival kept, for its hash and queue.
  pub record LoadsFilter (wire : SeatView HintStep) (step hash queue : ℕ) : Type 0 where
    pub place : ℕ
    pub filter : Filter
    pub here : filter_place i.plan.filters (Some hash) ≡ Some place
    pub queue_is : filter.queue ≡ queue
    pub queue_within : filter.queue < length i.plan.queues
    pub cpu_within : filter.cpu < i.plan.cpus
    pub loads : nth_step wire.steps step ≡ Some (Load (c.filter place) (c.filter_value filter))

  -- One seat, the wire, announced all packets, in their order. For each that has a hash it first
  -- looked for a filter, with the step `look`; so its looks for a packet came before it announced
  -- that packet or a later one.
  pub record WireIsInTurn : Type 0 where
    pub wire : SeatView HintStep
    pub among : Contains seats wire
    pub look : (packet : ℕ) → ℕ
    pub looks : (a : Arrival) (hash queue : ℕ) → Contains h.arrivals a
        → packet_hash (setup_in i) a.id ≡ Some hash
        → route_of a ≡ route (Some hash) (Some queue) 0
        → LoadsFilter wire (look a.id) hash queue
    pub tells : (seat : SeatView HintStep) (x y n value hash : ℕ) → Contains seats seat → x ≤ y
        → y < length i.packets → packet_hash (setup_in i) x ≡ Some hash
        → nth_step seat.steps n ≡ Some (Store (c.packet y) value)
        → (seat ≡ wire) × (look x < n)

  -- A seat that set a filter had found the queue of the packet announced whose move set it.
  abbrev pub FiltersAreAnnounced : Execution → Type 0
  FiltersAreAnnounced t =
      (seat : SeatView HintStep) (n place : ℕ) (f : Filter) → Contains seats seat
      → place < i.plan.filters → f.queue < length i.plan.queues → f.cpu < i.plan.cpus
      → nth_step seat.steps n ≡ Some (Store (c.filter place) (c.filter_value f))
      → (w : WasFiltered i t place f.queue) × FoundSet seat (c.packet w.turn.chosen.id) n

  -- The mark of a packet is the step of a turn of a receive queue that steered it.
  pub record WasMarked (t : Execution) (seen : ℕ → ℕ → ℕ → ℕ)
      (wants : WantsAreLoaded i h c seats t seen) (seat : SeatView HintStep) (packet n : ℕ)
      : Type 0 where
    pub queue : ℕ
    pub within : queue < length i.plan.queues
    pub index : ℕ
    pub turn : Turn
    pub is : nth_step (turns_of t queue) index ≡ Some turn
    pub packet_is : turn.chosen.id ≡ packet
    pub seat_is : (wants queue within).seat ≡ seat
    pub step_is : (wants queue within).mark index ≡ n

  -- A packet is marked only by the turn that steered it.
  abbrev pub MarksAreOfTurns : (t : Execution) (seen : ℕ → ℕ → ℕ → ℕ)
      → WantsAreLoaded i h c seats t seen → Type 0
  MarksAreOfTurns t seen wants =
      (seat : SeatView HintStep) (x n value : ℕ) → Contains seats seat → x < length i.packets
      → nth_step seat.steps n ≡ Some (Store (c.steered x) value)
      → WasMarked t seen wants seat x n

  -- ---- writes of applications

  -- The n-th write of an application was made for its k-th reply's packet: the entry is that of the
  -- packet's hash, by a size that was read in a visit.
  pub record IsMadeFor (rx_own : ℕ → List BoardStep) (app n k : ℕ) : Type 0 where
    pub write : SockWrite
    pub sent : Sent
    pub is : slice_get (list_at h.writes app) n ≡ Some write
    pub for : slice_get (list_at h.sent app) k ≡ Some sent
    pub size : ℕ
    pub read : WasRead i h c seats rx_own size
    pub entry : class_of size (packet_hash (setup_in i) sent.id) ≡ Some write.entry

  -- A store at an entry was such a write, and the seat had found its packet marked.
  pub record IsMarkedWrite (reply : (app write : ℕ) → ℕ) (seat : SeatView HintStep) (n : ℕ)
      (w : SockWrite) : Type 0 where
    pub app : ℕ
    pub index : ℕ
    pub is : slice_get (list_at h.writes app) index ≡ Some w
    pub sent : Sent
    pub for : slice_get (list_at h.sent app) (reply app index) ≡ Some sent
    pub marked : FoundSet seat (c.steered sent.id) n

  -- Each write of an application was made for a packet that it took, each for another one, in their
  -- order; and before it the application found the packet marked as steered.
  pub record WritesAreMarked (rx_own : ℕ → List BoardStep) : Type 0 where
    pub reply : (app write : ℕ) → ℕ
    pub rise : (a m n : ℕ) → m < n → n < length (list_at h.writes a) → reply a m < reply a n
    pub made_for : (a n : ℕ) → n < length (list_at h.writes a)
        → IsMadeFor rx_own a n (reply a n)
    pub stored : (seat : SeatView HintStep) (n place cpu : ℕ) → Contains seats seat
        → place < MAX_SOCKET_SIZE
        → nth_step seat.steps n ≡ Some (Store (c.socket place) (c.place cpu))
        → IsMarkedWrite reply seat n (record { entry = place; cpu = cpu })

  -- What is written at an entry is a processor that there is, or 0 by a done command that sets the
  -- size of the table.
  abbrev pub EntriesAreWritten : Type 0
  EntriesAreWritten =
      (place value : ℕ) → place < MAX_SOCKET_SIZE → IsWrittenBy seats (c.socket place) value
      → ((cpu : ℕ) × (value ≡ c.place cpu) × (cpu < i.plan.cpus))
      ⊎ ((size : ℕ) × (value ≡ 0) × WasDone h (give.Sock size))

  -- All this is so.
  pub record KeepsMarks (rx_own : ℕ → List BoardStep) (t : Execution) (seen : ℕ → ℕ → ℕ → ℕ)
      (wants : WantsAreLoaded i h c seats t seen) : Type 0 where
    pub wire : WireIsInTurn
    pub filters : FiltersAreAnnounced t
    pub marks : MarksAreOfTurns t seen wants
    pub writes : WritesAreMarked rx_own
    pub entries : EntriesAreWritten
