-- What a poller reads in a visit of the receive board, and by what it chooses a processor for a
-- packet (kernel scaling chapter, sections RPS and RFS).
use Rattle.std.specs.Prelude.{◌≡◌, ◌≢◌, ◌⊎◌, ℕ, ◌+◌, ◌*◌, ◌<◌, ◌≤◌, ◌==◌, Bool, true, false}
use Rattle.std.specs.Prelude.{List, [], ◌∷◌, ◌++◌, Option, Some, nat_lt}
use Rattle.std.specs.Prelude.{None, length, slice_index, unwrap_or, IfSome, IsSome, if◌then◌else◌}
use Rattle.std.specs.List.{Contains}
use Rattle.std.specs.Option.{is_some}
use Rattle.rtrb.specs.Ring.{known_items, received}
use Rattle.linearization.specs.Seats.{SeatView}
use Rattle.steer_base.specs.Arrivals.{filter_place}
use Rattle.steer_base.specs.Choices.{class_of, desired_cpu, looks_at_head, migrate, rps_choice_of}
use Rattle.steer_base.specs.Counters.{rounded_up}
use Rattle.steer_base.specs.Journals.{grown}
use Rattle.steer_base.specs.HashTables.{place_in_rows}
use Rattle.steer_base.specs.Sets.{has}
use Rattle.steer_base.specs.declared.choice.Choice.{Choice}
use Rattle.steer_base.specs.declared.choice.Chosen.{Chosen}
use Rattle.steer_base.specs.declared.cpu_mask.CpuMask.{CpuMask}
use Rattle.steer_base.specs.declared.filter.Filter.{Filter}
use Rattle.steer_base.specs.declared.limits.TheConstants.{MAX_PACKETS}
use Rattle.steer_base.specs.declared.put.Put.{Put}
use Rattle.steer_base.specs.declared.put.Put.TheVariants.{At, Dropped}
use Rattle.dev_flow_table.specs.Folds.{Placement, after_turn, table_after}
use Rattle.dev_flow_table.specs.Tables.{Table, cleared, entries, weighed}
use Rattle.hint_words.specs.declared.step.HintStep.{HintStep}
use Rattle.hint_words.specs.declared.step.HintStep.TheVariants.{Load, Store}
use Rattle.hop_rule.specs.Boards.{gate_steps}
use Rattle.hop_rule.specs.Gates.{visit_number}
use Rattle.hop_rule.specs.declared.sizes.BoardSizes.{BoardSizes}
use Rattle.hop_rule.specs.declared.step.BoardStep.{BoardStep}
use Rattle.hop_rule.specs.declared.step.BoardStep.TheVariants.{Gate, Lane, Weighed}
use Rattle.hop_rule.specs.declared.step.Change.TheVariants.{Offered}
use Rattle.hop_rule.specs.declared.step.GateStep.TheVariants.{Left, Read, Turned}
use Rattle.hop_rule.specs.declared.step.LaneStep.TheVariants.{Freed}
use Rattle.board_api.specs.Seats.{BoardSeatView, Adds}
use Rattle.board_api.specs.OwnSteps.{ReadsIn}
use Rattle.board_api.specs.StepWords.{is_marked, low_half, openings_in}
use Rattle.hop_delivery.specs.Orders.Turns.{AreQuiet, Turn, visit_with}
use Rattle.steer_model.specs.State.Setup.{Setup, packet_hash}
use Rattle.steer_model.specs.Steps.Pollers.{filter_for}
use Rattle.run_words.specs.HintViews.{after_step}
use Rattle.run_words.specs.Numbers.{hint_number}
use Rattle.run_words.specs.Values.{cpus_in, filter_word, flows_in, place_in, socket_size_in}
use Rattle.run_words.specs.declared.hint_word.HintWord.TheVariants as word
use Rattle.run_words.specs.declared.values.TheConstants.{STEERED}
use Rattle.run_words.specs.declared.hint_word.TheConstants.{FILTER_WORDS}
use Rattle.run_workers.specs.Hands.Deltas.{HoldsNoMore, LeavesLane}
use Rattle.run_workers.specs.declared.poller.Poller.{Poller}
use Rattle.run_workers.specs.declared.poller.Reading.{Reading}

-- The board has the settings of a receive board: two for each queue, and two more.
abbrev pub HasQueueSettings : BoardSizes → Setup → Type 0
HasQueueSettings about given = length about.settings ≡ 2 * length given.homes + 2

-- The reads of the four settings of queue q, of so many: its processors, its flow count, the socket
-- size and the online processors.
abbrev pub read_steps : ℕ → ℕ → Reading → List BoardStep
read_steps queues q r =
    Gate (Read (2 * queues + 1) r.online) ∷ Gate (Read (2 * queues) r.socket)
    ∷ Gate (Read (queues + q) r.flows) ∷ Gate (Read q r.mask) ∷ []

-- A seat with these steps read each of the four settings in a visit with this number.
pub record AreRead (queues q : ℕ) (r : Reading) (own : List BoardStep) (number : ℕ)
    : Type 0 where
  pub mask : ReadsIn own number q r.mask
  pub flows : ReadsIn own number (queues + q) r.flows
  pub socket : ReadsIn own number (2 * queues) r.socket
  pub online : ReadsIn own number (2 * queues + 1) r.online

-- What a poller has kept was read by its seat, in a visit with the number that is kept with it.
abbrev pub KeepsReading : ℕ → Poller → List BoardStep → Type 0
KeepsReading queues p own = IfSome p.kept (λ k. AreRead queues p.queue k.reading own k.visit)

-- The four settings were read now, or nothing was done; and they are as they were read in a visit
-- with the number of the seat's visit.
pub record Reads (queues q : ℕ) (r : Reading) (old new : BoardSeatView) : Type 0 where
  pub steps : (new ≡ old) ⊎ Adds (read_steps queues q r) old new
  pub are : AreRead queues q r new.steps (visit_number (gate_steps old.steps))

-- The table after a look at the flow word: cleared, with the word's size, if another word was seen
-- before.
abbrev pub refreshed : ℕ → ℕ → Table → Table
refreshed seen flows table =
    if seen == flows then table else cleared (rounded_up (flows_in flows)) table.start false

-- The entry of the socket flow table that is looked up for a packet with this class and hash; none
-- without a class or a hash, or if the table has no entries.
abbrev pub socket_entry : ℕ → Option ℕ → Option ℕ → Option ℕ
socket_entry size None hash = None
socket_entry size (Some class) hash = class_of size hash

-- The entry was loaded, and this processor was wanted there; without an entry nothing was loaded.
abbrev pub LooksUp : ℕ → Option ℕ → SeatView HintStep → SeatView HintStep → Option ℕ → Type 0
LooksUp cpus None old new want = (want ≡ None) × (new ≡ old)
LooksUp cpus (Some entry) old new want =
    (word : ℕ) × (want ≡ place_in word cpus)
    × (new ≡ record old { steps = Load entry word ∷ old.steps })

-- The head of the current lane of a class was loaded, if there is one.
abbrev pub LoadsHead : Table → Option ℕ → BoardSeatView → BoardSeatView → Option ℕ → Type 0
LoadsHead table class old new None = new ≡ old
LoadsHead table None old new (Some head) = ⊥
LoadsHead table (Some class) old new (Some head) =
    (lane : ℕ) × (word : ℕ) × ((entries table class).lane ≡ Some lane) × (head ≡ low_half word)
    × Adds (Weighed lane word ∷ []) old new

-- The head of the current lane of the class was loaded among these steps.
abbrev pub LoadedHead : Table → Option ℕ → List BoardStep → ℕ → Type 0
LoadedHead table None steps head = ⊥
LoadedHead table (Some class) steps head =
    (lane : ℕ) × (word : ℕ) × ((entries table class).lane ≡ Some lane) × (head ≡ low_half word)
    × Contains steps (Weighed lane word)

-- ---- the choice

-- the class of a packet in the queue's table
abbrev pub class_read : Setup → ℕ → Table → Option ℕ
class_read given id table = place_in_rows table.rows (packet_hash given id)

module _ (given : Setup) (q id : ℕ) (r : Reading) (table : Table) where
  -- the online processors that were read
  abbrev pub online_read : CpuMask
  online_read = cpus_in r.online given.cpus

  -- the processor of receive packet steering
  abbrev pub plain_read : ℕ
  plain_read =
      rps_choice_of (cpus_in r.mask given.cpus) (packet_hash given id) online_read
      (slice_index given.homes q)

  -- the desired processor, by what was wanted
  abbrev pub desired_read : Option ℕ → ℕ
  desired_read want = desired_cpu (class_read given id table) want online_read plain_read

  -- whether the rule looks at the head of the current lane
  abbrev pub looks_to_head : Option ℕ → Bool
  looks_to_head want =
      looks_at_head (class_read given id table) (entries table) (desired_read want)
      (has online_read)

  -- the choice by the rule, by what was wanted and the head that was loaded
  abbrev pub choice_read : Option ℕ → Option ℕ → Choice
  choice_read want head =
      migrate (class_read given id table) want (desired_read want) (entries table)
      (λ _. unwrap_or head 0) (has online_read)

-- Each class whose lane is set has one of so many processors.
abbrev pub HasLanesBelow : ℕ → Table → Type 0
HasLanesBelow cpus table =
    (class : ℕ) → class < length table.rows → IfSome (entries table class).lane (λ l. l < cpus)

-- A poller chose a processor for a packet, in a visit: it read the settings or had kept them from a
-- visit with the same number, looked up the socket flow table, loaded the head that the rule looks
-- at, and chose by these. `flows` is the flow word that it had seen before, and `seen` the one that
-- it has seen now.
pub record Chooses (given : Setup) (q id flows seen : ℕ) (before after : Table) (choice : Choice)
    (old new : BoardSeatView) (hint_old hint_new : SeatView HintStep) : Type 0 where
  pub reading : Reading
  pub want : Option ℕ
  pub head : Option ℕ
  pub mid : BoardSeatView
  pub reads : Reads (length given.homes) q reading old mid
  pub looks : LooksUp given.cpus
      (socket_entry (socket_size_in reading.socket)
      (class_read given id (refreshed flows reading.flows before)) (packet_hash given id))
      hint_old hint_new want
  pub loads : LoadsHead (refreshed flows reading.flows before)
      (class_read given id (refreshed flows reading.flows before)) mid new head
  pub looked : is_some head
      ≡ looks_to_head given q id reading (refreshed flows reading.flows before) want
  pub rule : choice
      ≡ choice_read given q id reading (refreshed flows reading.flows before) want head
  pub table : after
      ≡ weighed (refreshed flows reading.flows before)
      (class_read given id (refreshed flows reading.flows before)) choice
  pub word : seen ≡ reading.flows

-- By a choice a poller became another: it has seen a flow word, by which it may have cleared its
-- table, and what it has kept of the settings was read by its seat, which has these steps now.
pub record Rereads (queues : ℕ) (p q : Poller) (own : List BoardStep) : Type 0 where
  pub kept : KeepsReading queues q own
  pub same : q ≡ record p { flows = q.flows; table = q.table; kept = q.kept }

-- ---- the packet's own words

-- The word of the packet's receive queue was loaded, and nothing else was done.
abbrev pub LoadsQueue : (id value : ℕ) → SeatView HintStep → SeatView HintStep → Type 0
LoadsQueue id value old new = new ≡ after_step (Load (hint_number (word.Queue id)) value) old

-- The packet in a hand was found announced: its word was set. Or none was: the hand was empty, or
-- the word of its packet was 0.
abbrev pub FindsAnnounced : (hand found : Option ℕ) → SeatView HintStep → SeatView HintStep
    → Type 0
FindsAnnounced hand None old new =
    ((hand ≡ None) × (new ≡ old)) ⊎ ((id : ℕ) × (hand ≡ Some id) × LoadsQueue id 0 old new)
FindsAnnounced hand (Some id) old new =
    (hand ≡ Some id) × (value : ℕ) × LoadsQueue id value old new × (value ≢ 0)

-- The packet was marked as steered.
abbrev pub Marks : ℕ → SeatView HintStep → SeatView HintStep → Type 0
Marks id old new = new ≡ after_step (Store (hint_number (word.Steered id)) STEERED) old

-- ---- the put

-- The filter was stored at the place of the packet's hash, if there are both; otherwise nothing was
-- stored.
abbrev pub StoresFilter : Option ℕ → Option Filter → SeatView HintStep → SeatView HintStep → Type 0
StoresFilter (Some place) (Some filter) old new =
    new ≡ record old { steps = Store (FILTER_WORDS + place) (filter_word filter) ∷ old.steps }
StoresFilter (Some place) None old new = new ≡ old
StoresFilter None filter old new = new ≡ old

-- After an accepted put the filter was stored that the choice asks for, and after a drop none.
abbrev pub AsksFilter : Setup → ℕ → ℕ → Choice → Put → SeatView HintStep → SeatView HintStep
    → Type 0
AsksFilter given filters id choice (At position) old new =
    StoresFilter (filter_place filters (packet_hash given id))
    (filter_for given.homes filters choice position) old new
AsksFilter given filters id choice (Dropped number accepted pulled cause) old new = new ≡ old

-- the number of accepted packets after one more put
abbrev pub count_after : ℕ → Put → ℕ
count_after count (At position) = count + 1
count_after count (Dropped number accepted pulled cause) = count

-- the step by which a packet is put to a lane with its hash
abbrev pub put_of : Setup → ℕ → ℕ → Put → BoardStep
put_of given lane id answer = Lane (Freed lane (Offered id (packet_hash given id) answer))

-- A poller put a packet to the lane of its choice: the lane was taken and given back, the packet
-- was offered with its hash, and the table was told of the answer.
pub record Puts (given : Setup) (filters id : ℕ) (choice : Choice) (answer : Put)
    (before after : Table) (count_old count_new : ℕ) (old new : BoardSeatView)
    (hint_old hint_new : SeatView HintStep) : Type 0 where
  pub early : List BoardStep
  pub quiet : AreQuiet early
  pub holds : HoldsNoMore (put_of given choice.lane id answer ∷ early)
  pub leaves : (l : ℕ) → LeavesLane l (put_of given choice.lane id answer ∷ early)
  pub adds : Adds (put_of given choice.lane id answer ∷ early) old new
  pub table : after ≡ table_after before choice.class (Some answer)
  pub count : count_new ≡ count_after count_old answer
  pub asks : AsksFilter given filters id choice answer hint_old hint_new

-- ---- a turn

-- A poller steered a packet, in a visit: it chose a processor, marked the packet as steered, and
-- put it there.
pub record Steers (given : Setup) (filters q flows seen : ℕ) (before after : Table)
    (count_old count_new : ℕ) (chosen : Chosen) (old new : BoardSeatView)
    (hint_old hint_new : SeatView HintStep) : Type 0 where
  pub between : Table
  pub mid : BoardSeatView
  pub hint_mid : SeatView HintStep
  pub hint_marked : SeatView HintStep
  pub answer : Put
  pub chooses : Chooses given q chosen.id flows seen before between chosen.choice old mid hint_old
      hint_mid
  pub marks : Marks chosen.id hint_mid hint_marked
  pub puts : Puts given filters chosen.id chosen.choice answer between after count_old count_new
      mid new hint_marked hint_new

-- the turn as a flow table is told of it
abbrev pub as_told : Turn → Placement
as_told t = record { chosen = t.chosen; put = Some t.answer }

-- The seat made one visit of the receive board with one put, as this turn says, and what the turn
-- says is by what the poller looked up and loaded in the visit, and by settings that the seat read
-- in a visit with the same number.
pub record Visits (given : Setup) (filters q flows seen : ℕ) (before after : Table)
    (count_old count_new : ℕ) (turn : Turn) (old new : BoardSeatView)
    (hint_old hint_new : SeatView HintStep) : Type 0 where
  pub adds : Adds (visit_with turn [] []) old new
  pub gate : is_marked turn.word ≡ false
  pub quiet : AreQuiet turn.early
  pub holds : HoldsNoMore (visit_with turn [] [])
  pub leaves : (l : ℕ) → LeavesLane l (visit_with turn [] [])
  pub hash : turn.hash ≡ packet_hash given turn.chosen.id
  pub reading : Reading
  pub want : Option ℕ
  pub head : Option ℕ
  pub hint_mid : SeatView HintStep
  pub hint_marked : SeatView HintStep
  pub reads : AreRead (length given.homes) q reading new.steps (openings_in turn.word)
  pub looks : LooksUp given.cpus
      (socket_entry (socket_size_in reading.socket)
      (class_read given turn.chosen.id (refreshed flows reading.flows before))
      (packet_hash given turn.chosen.id))
      hint_old hint_mid want
  pub loads : IfSome head (λ n. LoadedHead (refreshed flows reading.flows before)
      (class_read given turn.chosen.id (refreshed flows reading.flows before)) turn.early n)
  pub looked : is_some head
      ≡ looks_to_head given q turn.chosen.id reading (refreshed flows reading.flows before) want
  pub rule : turn.chosen.choice
      ≡ choice_read given q turn.chosen.id reading (refreshed flows reading.flows before) want head
  pub table : after ≡ after_turn (refreshed flows reading.flows before) (as_told turn)
  pub word : seen ≡ reading.flows
  pub count : count_new ≡ count_after count_old turn.answer
  pub marks : Marks turn.chosen.id hint_mid hint_marked
  pub asks : AsksFilter given filters turn.chosen.id turn.chosen.choice turn.answer hint_marked
      hint_new

-- ---- a poll

-- What a poller keeps of itself: its hand names a packet for which there is room in its journal,
-- its table names processors of the board, and it has counted at most as many accepted packets as
-- choices.
pub record IsPoller (cpus : ℕ) (p : Poller) : Type 0 where
  pub few : p.choices.room ≤ MAX_PACKETS
  pub hand : IfSome p.hand (λ id. id < p.choices.room)
  pub room : IfSome p.hand (λ id. length p.choices.items < p.choices.room)
  pub lanes : HasLanesBelow cpus p.table
  pub rounded : p.table.exact ≡ false
  pub count : p.accepted ≤ length p.choices.items

-- A poller with an empty hand took a number from its ring, which is in its hand if it names a
-- packet; or it took none.
abbrev pub Takes : Poller → Poller → Bool → Type 0
Takes p q false = (received q.ring ≡ received p.ring) × (q.hand ≡ p.hand)
Takes p q true =
    (x : ℕ) × (p.hand ≡ None) × (received q.ring ≡ received p.ring ++ x ∷ [])
    × (q.hand ≡ (if nat_lt x p.choices.room then Some x else None))

-- A poller had nothing to take: its hand was not empty, or it had no room for a choice, or it knows
-- no number in its ring that it has not taken. A ring tells no more of a try that gets none.
abbrev pub TakesNone : Poller → Poller → Type 0
TakesNone p q =
    IsSome p.hand ⊎ (p.choices.room ≤ length p.choices.items) ⊎ (known_items q.ring ≡ [])

-- The seat found the gate closed and backed out.
abbrev pub FindsClosed : BoardSeatView → BoardSeatView → Type 0
FindsClosed old new = (word : ℕ) × Adds (Gate Left ∷ Gate (Turned word) ∷ []) old new

-- A poller steered nothing and keeps its hand: the hand was empty; or its packet was not announced,
-- so nothing was done at the board; or it was, and the gate was closed.
pub record Waits (p q : Poller) (old new : BoardSeatView) (hint_old hint_new : SeatView HintStep)
    : Type 0 where
  pub same : q ≡ p
  pub steps : ((p.hand ≡ None) × (hint_new ≡ hint_old) × (new ≡ old))
      ⊎ ((id : ℕ) × (p.hand ≡ Some id) × LoadsQueue id 0 hint_old hint_new × (new ≡ old))
      ⊎ ((id : ℕ) × (word : ℕ) × (p.hand ≡ Some id) × LoadsQueue id word hint_old hint_new
      × (word ≢ 0) × FindsClosed old new)

-- Neither was a number taken nor a packet steered.
abbrev pub DoesNothing : Poller → Poller → Type 0
DoesNothing p q = (received q.ring ≡ received p.ring) × (q.choices ≡ p.choices)

-- A poller has the queue and the ring that it had, and its hand is empty.
abbrev pub EmptiesHand : Poller → Poller → Type 0
EmptiesHand p q =
    q ≡ record p {
      hand = None;
      flows = q.flows;
      table = q.table;
      choices = q.choices;
      accepted = q.accepted;
      kept = q.kept;
    }

-- A poller found the packet in its hand announced, steered it in one visit, and noted the choice.
pub record SteersHand (given : Setup) (filters id : ℕ) (p q : Poller) (old new : BoardSeatView)
    (hint_old hint_new : SeatView HintStep) : Type 0 where
  pub turn : Turn
  pub id_is : turn.chosen.id ≡ id
  pub word : ℕ
  pub hint_mid : SeatView HintStep
  pub loads : LoadsQueue id word hint_old hint_mid
  pub announced : word ≢ 0
  pub visit : Visits given filters p.queue p.flows q.flows p.table q.table p.accepted q.accepted
      turn old new hint_mid hint_new
  pub choices : q.choices ≡ grown p.choices turn.chosen
  pub same : EmptiesHand p q

-- A poller took a number or none, and then steered the packet in its hand in one visit, or nothing.
pub record Polls (given : Setup) (filters : ℕ) (p q : Poller) (old new : BoardSeatView)
    (hint_old hint_new : SeatView HintStep) : Type 0 where
  pub mid : Poller
  pub took : Bool
  pub takes : Takes p mid took
  pub none : took ≡ false → TakesNone p mid
  pub same : mid ≡ record p { hand = mid.hand; ring = mid.ring }
  pub steers : Waits mid q old new hint_old hint_new
      ⊎ ((id : ℕ) × (mid.hand ≡ Some id)
      × SteersHand given filters id mid q old new hint_old hint_new)
