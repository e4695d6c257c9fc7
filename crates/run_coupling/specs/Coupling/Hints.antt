-- What the values of the shared hint words are, and how the threads use what they load.
use Rattle.std.specs.Prelude.{◌≡◌, ◌≢◌, ◌⊎◌, ℕ, ◌^◌, ◌<◌, ◌≤◌, true, List, [], ◌∷◌, Option, Some}
use Rattle.std.specs.Prelude.{None, length, map, slice_get, slice_index, All}
use Rattle.std.specs.List.{Contains}
use Rattle.linearization.specs.Seats.{SeatView}
use Rattle.steer_base.specs.Arrivals.{filter_place, route, table_place}
use Rattle.steer_base.specs.Choices.{class_of, has_moved}
use Rattle.steer_base.specs.Filters.{home_queue}
use Rattle.steer_base.specs.declared.filter.Filter.{Filter}
use Rattle.steer_base.specs.declared.put.Put.TheVariants.{At}
use Rattle.steer_base.specs.declared.limits.TheConstants.{MAX_SOCKET_SIZE}
use Rattle.rss_table.specs.declared.reta.TheConstants.{RETA_ENTRIES}
use Rattle.hint_words.specs.Loads.{IsStoredBy}
use Rattle.hint_words.specs.declared.step.HintStep.{HintStep}
use Rattle.hint_words.specs.declared.step.HintStep.TheVariants.{Load}
use Rattle.history.specs.Lists.{arrival_of, list_at}
use Rattle.history.specs.Regular.{route_of}
use Rattle.history.specs.declared.arrival.Arrival.{Arrival}
use Rattle.history.specs.declared.history.History.{History}
use Rattle.history.specs.declared.sent.Sent.{Sent}
use Rattle.history.specs.declared.sock_write.SockWrite.{SockWrite}
use Rattle.hop_rule.specs.Moments.{nth_step}
use Rattle.hop_rule.specs.declared.step.BoardStep.{BoardStep}
use Rattle.hop_rule.specs.declared.step.BoardStep.TheVariants.{Gate}
use Rattle.hop_rule.specs.declared.step.GateStep.TheVariants.{Read}
use Rattle.hop_rule.specs.Boards.{gate_steps}
use Rattle.hop_rule.specs.Gates.{inside, visit}
use Rattle.hop_rule.specs.Moments.{past}
use Rattle.board_api.specs.OwnSteps.{Has}
use Rattle.hop_delivery.specs.Orders.ReceiveSettings.{socket_word}
use Rattle.hop_delivery.specs.Orders.Runs.{Execution, turns_of}
use Rattle.hop_delivery.specs.Orders.Turns.{Turn}
use Rattle.steer_model.specs.Good.Arrivals.{EntryFrom}
use Rattle.steer_model.specs.Good.Choices.{WasWritten}
use Rattle.steer_model.specs.Good.Inputs.{Input, setup_in}
use Rattle.steer_model.specs.Good.Writes.{StoodAt}
use Rattle.steer_model.specs.State.Setup.{packet_hash}
use Rattle.run_words.specs.Values.{socket_size_in}
use Rattle.run_coupling.specs.Coupling.Inputs.{receive_queues}

-- The numbers of the hint words, by what they are about, and their values for a processor or queue
-- and for a filter. No such value is 0.
pub record HintCodes : Type 0 where
  pub socket : ℕ → ℕ  -- the word of an entry of the socket flow table
  pub entry : ℕ → ℕ  -- of an entry of the redirection table
  pub stand : ℕ → ℕ  -- of an application
  pub filter : ℕ → ℕ  -- of a filter
  pub packet : ℕ → ℕ  -- of a packet's receive queue
  pub steered : ℕ → ℕ  -- of whether a packet is steered
  pub place : ℕ → ℕ  -- the value for a processor or a queue
  pub filter_value : Filter → ℕ  -- the value for a filter
  pub place_is_set : (n : ℕ) → place n ≢ 0
  pub filter_is_set : (f : Filter) → filter_value f ≢ 0

-- A seat has loaded this value of the word.
pub record WasLoaded (seats : List (SeatView HintStep)) (word value : ℕ) : Type 0 where
  pub seat : SeatView HintStep
  pub among : Contains seats seat
  pub loads : Contains seat.steps (Load word value)

-- What a value says of a place, of so many: this one, or none of them.
abbrev pub Says : HintCodes → (count value : ℕ) → Option ℕ → Type 0
Says c count value (Some place) = (place < count) × (value ≡ c.place place)
Says c count value None = (place : ℕ) → place < count → value ≢ c.place place

-- The value is that of no filter which sends packets to one of so many queues.
abbrev pub SaysNoFilter : HintCodes → (queues cpus value : ℕ) → Type 0
SaysNoFilter c queues cpus value =
    (f : Filter) → f.queue < queues → f.cpu < cpus → f.mark < 2 ^ 32 → value ≢ c.filter_value f

-- A filter at this place that sends packets to the queue was stored for a turn of a producer: its
-- choice moved to a processor whose lowest queue that is, and the packet was accepted there.
pub record WasFiltered (i : Input) (t : Execution) (place queue : ℕ) : Type 0 where
  pub producer : ℕ
  pub index : ℕ
  pub turn : Turn
  pub position : ℕ
  pub is : nth_step (turns_of t producer) index ≡ Some turn
  pub moved : has_moved turn.chosen.choice.why ≡ true
  pub home : home_queue (setup_in i).homes turn.chosen.choice.lane ≡ Some queue
  pub accepted : turn.answer ≡ At position
  pub there : filter_place i.plan.filters (packet_hash (setup_in i) turn.chosen.id) ≡ Some place

-- ---- wants

-- The entry of the socket flow table at which a want is looked up: that of the packet's hash, by
-- the word of the table's size; none without a class.
abbrev pub entry_of : (size : ℕ) → (class hash : Option ℕ) → Option ℕ
entry_of size None hash = None
entry_of size (Some class) hash = class_of (socket_size_in size) hash

-- With this step of the seat the word of the entry was loaded, and what it said of the processors,
-- of so many, is wanted. Without an entry there was no such step, and nothing is wanted.
abbrev pub LookedUp : HintCodes → (cpus : ℕ) → SeatView HintStep → (entry step want : Option ℕ)
    → Type 0
LookedUp c cpus seat None step want = (step ≡ None) × (want ≡ None)
LookedUp c cpus seat (Some entry) step want =
    (n : ℕ) × (value : ℕ) × (step ≡ Some n)
    × (nth_step seat.steps n ≡ Some (Load (c.socket entry) value)) × Says c cpus value want

-- Each turn of a receive queue looked up its want, with steps of one seat that come in the order of
-- the turns. It also has the step of the seat with which its packet was marked as steered; a look
-- of this turn or of an earlier one came before it.
pub record HasWants (i : Input) (c : HintCodes) (seats : List (SeatView HintStep)) (t : Execution)
    (queue : ℕ) (seen : (turn word : ℕ) → ℕ) : Type 0 where
  pub seat : SeatView HintStep
  pub among : Contains seats seat
  pub step : (turn : ℕ) → Option ℕ
  pub each : (k : ℕ) (u : Turn) → nth_step (turns_of t queue) k ≡ Some u
      → LookedUp c i.plan.cpus seat
      (entry_of (seen k (socket_word (receive_queues i))) u.chosen.choice.class
      (packet_hash (setup_in i) u.chosen.id)) (step k) u.chosen.choice.want
  pub order : (j k m n : ℕ) → j < k → step j ≡ Some m → step k ≡ Some n → m < n
  pub mark : (turn : ℕ) → ℕ
  pub before : (j k m : ℕ) (u : Turn) → j ≤ k → nth_step (turns_of t queue) k ≡ Some u
      → step j ≡ Some m → m < mark k

-- ---- stores and loads

module _ (i : Input) (h : History) (c : HintCodes) (seats : List (SeatView HintStep)) where
  -- What each store of the threads was for, by its word and value within their ranges: a write of
  -- an
  -- application, a done command, a filter, or the queue of an arrival.
  pub record StoresAreMeant (t : Execution) : Type 0 where
    pub sockets : (place cpu : ℕ) → place < MAX_SOCKET_SIZE
        → IsStoredBy seats (c.socket place) (c.place cpu)
        → WasWritten h (record { entry = place; cpu = cpu })
    pub entries : (place q : ℕ) → place < RETA_ENTRIES
        → IsStoredBy seats (c.entry place) (c.place q) → EntryFrom i h place q
    pub stands : (a cpu : ℕ) → a < length i.plan.apps → IsStoredBy seats (c.stand a) (c.place cpu)
        → StoodAt i h a cpu
    pub filters : (place : ℕ) (f : Filter) → place < i.plan.filters
        → f.queue < length i.plan.queues → f.cpu < i.plan.cpus
        → IsStoredBy seats (c.filter place) (c.filter_value f) → WasFiltered i t place f.queue
    pub packets : (x q : ℕ) → x < length i.packets → IsStoredBy seats (c.packet x) (c.place q)
        → (arrival_of h.arrivals x).queue ≡ q

  -- ---- how loads were used

  -- A seat has loaded the word, and it said this of a place, of so many.
  abbrev pub WordSaid : (word count : ℕ) → Option ℕ → Type 0
  WordSaid word count place =
      (value : ℕ) × WasLoaded seats word value × Says c count value place

  -- The place, of so many, is the one that the word said when it was loaded; or the word said none,
  -- and the place is otherwise so.
  abbrev pub IsByWord : (word count place : ℕ) → Type 0 → Type 0
  IsByWord word count place Otherwise =
      WordSaid word count (Some place) ⊎ (WordSaid word count None × Otherwise)

  -- The word of a filter for the hash was loaded, and said none; or there are no filters.
  abbrev pub SawNoFilter : ℕ → Type 0
  SawNoFilter hash =
      (filter_place i.plan.filters (Some hash) ≡ None)
      ⊎ ((place : ℕ) × (value : ℕ) × (filter_place i.plan.filters (Some hash) ≡ Some place)
      × WasLoaded seats (c.filter place) value
      × SaysNoFilter c (length i.plan.queues) i.plan.cpus value)

  -- The wire sent an arrival to the queue of the filter that it loaded. Where it found none, the
  -- queue is that of the entry, whose word it loaded, or of the plan where the word said none.
  -- Without a hash it loaded nothing, and the queue is 0.
  abbrev pub IsRouted : Option ℕ → Arrival → Type 0
  IsRouted None a = route_of a ≡ route None None 0
  IsRouted (Some hash) a =
      ((q : ℕ) × (route_of a ≡ route (Some hash) None q) × SawNoFilter hash
      × IsByWord (c.entry (table_place hash)) (length i.plan.queues) q
      (slice_index i.plan.reta (table_place hash) ≡ q))
      ⊎ ((place : ℕ) × (f : Filter) × (f.queue < length i.plan.queues) × (f.cpu < i.plan.cpus)
      × (route_of a ≡ route (Some hash) (Some f.queue) 0)
      × (filter_place i.plan.filters (Some hash) ≡ Some place)
      × WasLoaded seats (c.filter place) (c.filter_value f))

  -- The processor of an application is that of its word, which was loaded, or else the plan's.
  abbrev pub Stands : ℕ → ℕ → Type 0
  Stands a cpu = IsByWord (c.stand a) i.plan.cpus cpu (slice_get i.plan.apps a ≡ Some cpu)

  -- The queue of a packet is that of its word, which was loaded, or else of its arrival.
  abbrev pub CameBy : ℕ → ℕ → Type 0
  CameBy x rxq =
      IsByWord (c.packet x) (length i.plan.queues) rxq ((arrival_of h.arrivals x).queue ≡ rxq)

  -- The wants of all receive queues are loads.
  abbrev pub WantsAreLoaded : Execution → (ℕ → ℕ → ℕ → ℕ) → Type 0
  WantsAreLoaded t seen = (q : ℕ) → q < length i.plan.queues → HasWants i c seats t q (seen q)

  -- ---- writes of applications

  module _ (rx_own : ℕ → List BoardStep) where
    -- A seat has read the socket size in a visit of the receive board.
    pub record WasRead (size : ℕ) : Type 0 where
      pub seat : ℕ
      pub step : ℕ
      pub does : Has (rx_own seat) step (Gate (Read (socket_word (receive_queues i)) size))
      pub in_visit : visit (gate_steps (past step (rx_own seat))) ≡ inside

    -- An application wrote for each packet of a list that has a hash, in order, the entry by a size
    -- that it read and the processor on which it stood; where the size was 0 it wrote nothing. A
    -- size beyond its range, which is never read,
    -- counts as 0.
    abbrev pub AreRecorded : ℕ → List ℕ → List SockWrite → Type 0
    AreRecorded a [] ws = ws ≡ []
    AreRecorded a (x ∷ xs) ws =
        ((packet_hash (setup_in i) x ≡ None) × AreRecorded a xs ws)
        ⊎ ((hash : ℕ) × (w : SockWrite) × (rest : List SockWrite) × (size : ℕ)
        × (packet_hash (setup_in i) x ≡ Some hash) × (ws ≡ w ∷ rest) × WasRead size
        × (class_of size (Some hash) ≡ Some w.entry) × Stands a w.cpu × AreRecorded a xs rest)
        ⊎ ((hash : ℕ) × (size : ℕ) × (packet_hash (setup_in i) x ≡ Some hash) × WasRead size
        × (size ≤ MAX_SOCKET_SIZE → size ≡ 0) × AreRecorded a xs ws)

    -- How the threads used what they loaded.
    pub record LoadsAreUsed (t : Execution) (seen : ℕ → ℕ → ℕ → ℕ) : Type 0 where
      pub arrivals : All (λ (a : Arrival). IsRouted (packet_hash (setup_in i) a.id) a) h.arrivals
      pub wants : WantsAreLoaded t seen
      pub queues : (a : ℕ) → All (λ (s : Sent). CameBy s.id s.rxq) (list_at h.sent a)
      pub stands : (a : ℕ) → All (λ (s : Sent). Stands a s.cpu) (list_at h.sent a)
      pub writes : (a : ℕ)
          → AreRecorded a (map (λ (s : Sent). s.id) (list_at h.sent a)) (list_at h.writes a)
