-- What an application does at its boards: it takes the packets of its inbox in order, records where
-- it runs in the socket flow table (kernel scaling chapter, section RFS), and replies by the maps
-- of the transmit queues (section XPS).
use Rattle.std.specs.Prelude.{◌≡◌, ◌≢◌, ◌⊎◌, ℕ, ◌+◌, ◌*◌, ◌<◌, ◌≤◌, ◌==◌, Bool, true, false}
use Rattle.std.specs.Prelude.{List, [], ◌∷◌, Option, None, Some, IfSome, IsSome, length, unwrap_or}
use Rattle.std.specs.Prelude.{slice_get, slice_index, slice_index_or, if◌then◌else◌}
use Rattle.std.specs.List.{Contains}
use Rattle.std.specs.Option.{is_some}
use Rattle.steer_base.specs.Choices.{class_of, looks_at_head, migrate}
use Rattle.steer_base.specs.Counters.{number}
use Rattle.steer_base.specs.Journals.{Journal, grown}
use Rattle.steer_base.specs.declared.choice.Choice.{Choice}
use Rattle.steer_base.specs.declared.limits.TheConstants.{MAX_PACKETS}
use Rattle.steer_base.specs.declared.put.Put.{Put}
use Rattle.history.specs.declared.arrival.Arrival.{Arrival}
use Rattle.history.specs.declared.sent.Sent.{Sent}
use Rattle.history.specs.declared.sock_write.SockWrite.{SockWrite}
use Rattle.dev_flow_table.specs.Folds.{after_turn, table_after}
use Rattle.dev_flow_table.specs.Tables.{Table, entries, weighed}
use Rattle.xps_map.specs.Maps.{Maps, no_cpus, picked}
use Rattle.hint_words.specs.declared.step.HintStep.TheVariants.{Load, Store}
use Rattle.hop_rule.specs.Boards.{gate_steps, out_slot}
use Rattle.hop_rule.specs.Gates.{visit_number}
use Rattle.hop_rule.specs.OutLanes.{OutList}
use Rattle.hop_rule.specs.declared.sizes.BoardSizes.{BoardSizes}
use Rattle.hop_rule.specs.declared.step.BoardStep.{BoardStep}
use Rattle.hop_rule.specs.declared.step.BoardStep.TheVariants.{Gate, Lane, LaneIn, OutCounted}
use Rattle.hop_rule.specs.declared.step.GateStep.TheVariants.{Entered, Left, Read, Turned}
use Rattle.hop_rule.specs.declared.step.LaneStep.TheVariants.{OutFreed, OutHeld, OutMissed}
use Rattle.board_api.specs.Calls.Results.{TookOut}
use Rattle.board_api.specs.OwnSteps.{ReadsIn}
use Rattle.board_api.specs.Seats.{BoardSeatView, Adds}
use Rattle.board_api.specs.StepWords.{is_marked, is_odd, openings_in, tail_in}
use Rattle.hop_delivery.specs.Orders.Turns.{AreQuiet, Turn, visit_with}
use Rattle.steer_model.specs.State.Setup.{Setup, flow_number_of, packet_hash}
use Rattle.run_words.specs.HintViews.{HintView, after_step}
use Rattle.run_words.specs.Numbers.{hint_number}
use Rattle.run_words.specs.Values.{cpus_in, place_in, place_word, queues_in, socket_size_in}
use Rattle.run_words.specs.declared.hint_word.HintWord.TheVariants as word
use Rattle.run_words.specs.declared.hint_word.TheConstants.{STAND_WORDS}
use Rattle.run_workers.specs.Hands.Deltas.{HoldsNoMore, LeavesLane, OnlyServes, Serves, no_lane}
use Rattle.run_workers.specs.Hands.KeptMaps.{Kept, with_map}
use Rattle.run_workers.specs.Hands.Pollers.{HasLanesBelow, LoadedHead, LoadsHead, as_told, put_of}
use Rattle.run_workers.specs.declared.server.Server.{Server}

-- ---- the next packet

-- Among these steps the out lane o was held, and this packet was at its index n.
pub record FoundAt (about : BoardSizes) (o n id : ℕ) (steps : List BoardStep) : Type 0 where
  pub word : ℕ
  pub found : OutList
  pub held : Contains steps (Lane (OutHeld o word found))
  pub there : slice_get found.items n ≡ Some id
  pub within : id < about.room

-- A seat looked for the packet at index n of the out lane o. It served no middle lane, and keeps no
-- lane.
pub record Peeks (about : BoardSizes) (o n : ℕ) (answer : Option ℕ) (old new : BoardSeatView)
    : Type 0 where
  pub added : List BoardStep
  pub only : OnlyServes no_lane added
  pub adds : Adds added old new
  pub found : IfSome answer (λ id. FoundAt about o n id added)

-- The seat saw no packet at index n of the out lane o: it loaded the lane's word, whose tail was
-- this count; or another seat held the lane; or the lane that it took had no such packet.
abbrev pub SeesNone : BoardSizes → (o n count : ℕ) → BoardSeatView → BoardSeatView → Type 0
SeesNone about o n count old new =
    ((word : ℕ) × (tail_in word ≡ count) × Adds (OutCounted o word ∷ []) old new)
    ⊎ ((word : ℕ) × (is_odd word ≡ true) × Adds (Lane (OutMissed o word) ∷ []) old new)
    ⊎ ((content : OutList) × (mid : BoardSeatView) × (slice_get content.items n ≡ None)
    × TookOut about o content old mid
    × Adds (Lane (OutFreed o) ∷ LaneIn (out_slot about o) ∷ []) mid new)

-- A seat looked in vain for the packet at index n of the out lane o, whose counters start at the
-- number `start`: the last that it did shows so.
abbrev pub LooksInVain : BoardSizes → (o start n : ℕ) → BoardSeatView → BoardSeatView → Type 0
LooksInVain about o start n old new =
    (mid : BoardSeatView) × Serves no_lane old mid
    × SeesNone about o n (number start n) mid new

-- ---- the record

-- The processor of an application is that of its word, of so many, or its home.
abbrev pub Stands : (cpus app home : ℕ) → HintView → HintView → (cpu : ℕ) → Type 0
Stands cpus app home old new cpu =
    (word : ℕ) × (cpu ≡ unwrap_or (place_in word cpus) home)
    × (new ≡ record old { steps = Load (STAND_WORDS + app) word ∷ old.steps })

-- The processor of the application was written to the entry of the socket flow table, and noted;
-- without an entry nothing was.
abbrev pub Writes : (cpus app home : ℕ) → Option ℕ → Journal SockWrite → Journal SockWrite
    → HintView → HintView → Type 0
Writes cpus app home None before after old new = (after ≡ before) × (new ≡ old)
Writes cpus app home (Some entry) before after old new =
    (cpu : ℕ) × (mid : HintView) × Stands cpus app home old mid cpu
    × (new ≡ record mid { steps = Store entry (place_word cpu) ∷ mid.steps })
    × (after ≡ grown before (record { entry = entry; cpu = cpu }))

-- The socket size was read, and the entry of the packet's hash by this size was written.
abbrev pub Notes : Setup → (id app home : ℕ) → Journal SockWrite → Journal SockWrite → BoardSeatView
    → BoardSeatView → HintView → HintView → Type 0
Notes given id app home before after old new hint_old hint_new =
    (size : ℕ) × Adds (Gate (Read (2 * length given.homes) size) ∷ []) old new
    × Writes given.cpus app home (class_of (socket_size_in size) (packet_hash given id)) before
    after hint_old hint_new

-- The flow of a packet was recorded, in one visit of the receive board.
pub record Records (given : Setup) (id app home : ℕ) (before after : Journal SockWrite)
    (old new : BoardSeatView) (hint_old hint_new : HintView) : Type 0 where
  pub word : ℕ
  pub gate : is_marked word ≡ false
  pub size : ℕ
  pub adds : Adds (Gate Left ∷ Gate (Read (2 * length given.homes) size) ∷ Gate (Entered word) ∷ [])
      old new
  pub writes : Writes given.cpus app home
      (class_of (socket_size_in size) (packet_hash given id)) before after hint_old hint_new

-- The word was loaded that says whether the packet is steered, and nothing else was done.
abbrev pub LoadsMark : (id value : ℕ) → HintView → HintView → Type 0
LoadsMark id value old new = new ≡ after_step (Load (hint_number (word.Steered id)) value) old

-- The gate was closed, and the seat backed out.
abbrev pub BacksOut : BoardSeatView → BoardSeatView → Type 0
BacksOut old new = (word : ℕ) × Adds (Gate Left ∷ Gate (Turned word) ∷ []) old new

-- An application has nothing to take: its hand is not empty, or it has no room for a reply, or its
-- seat looked for the next packet in vain.
abbrev pub HasNoNext : BoardSizes → Server → BoardSeatView → BoardSeatView → Type 0
HasNoNext about s old new =
    IsSome s.hand ⊎ (s.sent.room ≤ length s.sent.items)
    ⊎ LooksInVain about s.app s.start (length s.sent.items) old new

-- An application took nothing: it had nothing to take; or it found its next packet, which was not
-- marked as steered, so nothing more was done at the board; or it was, and the gate was closed.
pub record LeavesInbox (about : BoardSizes) (s t : Server) (old new : BoardSeatView)
    (hint_old hint_new : HintView) : Type 0 where
  pub same : t ≡ s
  pub mid : BoardSeatView
  pub looks : Serves no_lane old mid
  pub gate : (HasNoNext about s old mid × (hint_new ≡ hint_old) × (new ≡ mid))
      ⊎ ((id : ℕ) × (word : ℕ) × Peeks about s.app (length s.sent.items) (Some id) old mid
      × LoadsMark id word hint_old hint_new
      × (((word ≡ 0) × (new ≡ mid)) ⊎ ((word ≢ 0) × BacksOut mid new)))

-- An application with an empty hand found its next packet in its inbox, at the index of its number
-- of replies, and marked as steered; it recorded the packet's flow, and has it in hand.
pub record TakesNext (about : BoardSizes) (given : Setup) (s t : Server) (old new : BoardSeatView)
    (hint_old hint_new : HintView) : Type 0 where
  pub empty : s.hand ≡ None
  pub id : ℕ
  pub mid : BoardSeatView
  pub peeks : Peeks about s.app (length s.sent.items) (Some id) old mid
  pub word : ℕ
  pub hint_mid : HintView
  pub loads : LoadsMark id word hint_old hint_mid
  pub marked : word ≢ 0
  pub records : Records given id s.app s.home s.writes t.writes mid new hint_mid hint_new
  pub same : t ≡ record s { hand = Some id; writes = t.writes }

-- what an application did, by whether it took a packet
abbrev pub TakesOrLeaves : BoardSizes → Setup → Server → Server → BoardSeatView → BoardSeatView
    → HintView → HintView → Bool → Type 0
TakesOrLeaves about given s t old new hint_old hint_new true =
    TakesNext about given s t old new hint_old hint_new
TakesOrLeaves about given s t old new hint_old hint_new false =
    LeavesInbox about s t old new hint_old hint_new

-- ---- the queue of a packet

-- the queue of an arrival, if it is that of the packet
abbrev pub queue_if : ℕ → Option Arrival → Option ℕ
queue_if id None = None
queue_if id (Some a) = if a.id == id then Some a.queue else None

-- the queue of a packet in a list that has the arrivals in the order of the packets
abbrev pub late_queue : List Arrival → ℕ → Option ℕ
late_queue arrivals id = queue_if id (slice_get arrivals id)

-- the queue that a word says, or else a list
abbrev pub queue_by : Option ℕ → List Arrival → ℕ → Option ℕ
queue_by (Some queue) late id = Some queue
queue_by None late id = late_queue late id

-- The word of the packet's queue was loaded, and the queue is by it, or else by the list.
abbrev pub Queued : ℕ → ℕ → List Arrival → HintView → HintView → Option ℕ → Type 0
Queued queues id late old new queue =
    (value : ℕ) × (queue ≡ queue_by (place_in value queues) late id)
    × (new ≡ after_step (Load (hint_number (word.Queue id)) value) old)

-- ---- the maps

-- A seat with these steps read the two words of a transmit queue, of so many, in visits of this
-- number, and the maps have what they say.
pub record MapRead (cpus queues count tx : ℕ) (maps : Maps) (own : List BoardStep) (number : ℕ)
    : Type 0 where
  pub cpu_word : ℕ
  pub queue_word : ℕ
  pub reads_cpus : ReadsIn own number tx cpu_word
  pub reads_queues : ReadsIn own number (count + tx) queue_word
  pub cpus_are : slice_index_or maps.cpus tx no_cpus ≡ cpus_in cpu_word cpus
  pub queues_are : slice_index maps.queues tx ≡ queues_in queue_word queues

-- A seat with these steps read the words of the first n transmit queues in visits of this number,
-- and the maps, which are for all of them, have what they say.
pub record HasMaps (given : Setup) (n : ℕ) (maps : Maps) (own : List BoardStep) (number : ℕ)
    : Type 0 where
  pub reads : (tx : ℕ) → tx < n
      → MapRead given.cpus (length given.homes) given.txs tx maps own number
  pub count : maps.count ≡ given.txs
  pub cpu_sets : length maps.cpus ≡ given.txs
  pub queue_sets : length maps.queues ≡ given.txs

-- The maps that an application keeps were read by its seat, with these steps at the transmit board,
-- in visits of the number that it keeps, if it keeps one.
abbrev pub KeepsMaps : Setup → Kept → List BoardStep → Type 0
KeepsMaps given kept own =
    IfSome kept.visit (λ number. HasMaps given given.txs kept.maps own number)

-- ---- the reply

-- The board has the settings of a transmit board, two for each queue, and a lane for each.
pub record HasTransmitSettings (about : BoardSizes) (given : Setup) : Type 0 where
  pub settings : length about.settings ≡ 2 * given.txs
  pub lanes : about.lanes ≡ given.txs

-- The two words of a transmit queue were read, and its maps set by them.
abbrev pub ReadsMap : Setup → ℕ → Maps → Maps → BoardSeatView → BoardSeatView → Type 0
ReadsMap given tx before after old new =
    (cpu_word : ℕ) × (queue_word : ℕ)
    × Adds (Gate (Read (given.txs + tx) queue_word) ∷ Gate (Read tx cpu_word) ∷ []) old new
    × (after ≡ with_map given.cpus (length given.homes) before tx cpu_word queue_word)

-- A seat in a visit knows the words of the first n transmit queues: it read them in this visit, or
-- in one with the same number. It did nothing else.
pub record MapsRead (given : Setup) (n : ℕ) (maps : Maps) (old new : BoardSeatView)
    : Type 0 where
  pub added : List BoardStep
  pub adds : Adds added old new
  pub quiet : AreQuiet added
  pub holds : HoldsNoMore added
  pub leaves : (l : ℕ) → LeavesLane l added
  pub has : HasMaps given n maps new.steps (visit_number (gate_steps old.steps))

-- A lane for a packet of this flow was chosen by the migration rule over this table, with the pick
-- as the desired lane and no lane offline. The head that the rule looks at was loaded.
pub record ChoosesLane (flow pick : ℕ) (before after : Table) (choice : Choice)
    (old new : BoardSeatView) : Type 0 where
  pub head : Option ℕ
  pub loads : LoadsHead before (Some flow) old new head
  pub looked : is_some head ≡ looks_at_head (Some flow) (entries before) pick (λ _. true)
  pub rule : choice
      ≡ migrate (Some flow) (Some pick) pick (entries before) (λ _. unwrap_or head 0) (λ _. true)
  pub table : after ≡ weighed before (Some flow) choice

-- A packet was put to the lane of its choice with its hash, and the table was told of the answer.
pub record PutsReply (given : Setup) (id : ℕ) (choice : Choice) (answer : Put)
    (before after : Table) (old new : BoardSeatView) : Type 0 where
  pub early : List BoardStep
  pub quiet : AreQuiet early
  pub holds : HoldsNoMore (put_of given choice.lane id answer ∷ early)
  pub leaves : (l : ℕ) → LeavesLane l (put_of given choice.lane id answer ∷ early)
  pub adds : Adds (put_of given choice.lane id answer ∷ early) old new
  pub table : after ≡ table_after before choice.class (Some answer)

-- A reply was made, in a visit: all maps were known, the choice was made by the pick of these, and
-- the packet was put there.
pub record Sends (given : Setup) (sent : Sent) (choice : Choice) (before after : Table)
    (old new : BoardSeatView) : Type 0 where
  pub maps : Maps
  pub between : Table
  pub read : BoardSeatView
  pub mid : BoardSeatView
  pub answer : Put
  pub reads : MapsRead given given.txs maps old read
  pub chooses : ChoosesLane (flow_number_of given sent.id)
      (picked maps sent.rxq sent.cpu (packet_hash given sent.id)) before between choice read mid
  pub puts : PutsReply given sent.id choice answer between after mid new

-- The seat made one visit of the transmit board with one put, as this turn says, and what the turn
-- says is by the maps that were read in visits of its number, the application's processor, and the
-- head that was loaded in the visit.
pub record Replies (given : Setup) (app home : ℕ) (sent : Sent) (before after : Table)
    (turn : Turn) (old new : BoardSeatView) (hint_old hint_new : HintView) : Type 0 where
  pub adds : Adds (visit_with turn [] []) old new
  pub gate : is_marked turn.word ≡ false
  pub quiet : AreQuiet turn.early
  pub holds : HoldsNoMore (visit_with turn [] [])
  pub leaves : (l : ℕ) → LeavesLane l (visit_with turn [] [])
  pub id_is : turn.chosen.id ≡ sent.id
  pub hash : turn.hash ≡ packet_hash given sent.id
  pub maps : Maps
  pub count : maps.count ≡ given.txs
  pub reads : (tx : ℕ) → tx < given.txs
      → MapRead given.cpus (length given.homes) given.txs tx maps new.steps (openings_in turn.word)
  pub stands : Stands given.cpus app home hint_old hint_new sent.cpu
  pub head : Option ℕ
  pub loads : IfSome head (LoadedHead before (Some (flow_number_of given sent.id)) turn.early)
  pub looked : is_some head
      ≡ looks_at_head (Some (flow_number_of given sent.id)) (entries before)
      (picked maps sent.rxq sent.cpu (packet_hash given sent.id)) (λ _. true)
  pub rule : turn.chosen.choice
      ≡ migrate (Some (flow_number_of given sent.id))
      (Some (picked maps sent.rxq sent.cpu (packet_hash given sent.id)))
      (picked maps sent.rxq sent.cpu (packet_hash given sent.id)) (entries before)
      (λ _. unwrap_or head 0) (λ _. true)
  pub table : after ≡ after_turn before (as_told turn)

-- An application replied to nothing: its hand was empty, or the word of its packet's queue was
-- loaded and no queue was known, or the gate was closed.
pub record KeepsHand (queues : ℕ) (late : List Arrival) (s t : Server)
    (old new : BoardSeatView) (hint_old hint_new : HintView) : Type 0 where
  pub same : t ≡ s
  pub queue : Option ℕ
  pub hint : IfSome s.hand (λ id. Queued queues id late hint_old hint_new queue)
  pub untouched : s.hand ≡ None → hint_new ≡ hint_old
  pub gate : ((queue ≡ None) × (new ≡ old)) ⊎ ((IsSome queue) × BacksOut old new)

-- An application has what it had, but for its hand, which is empty, its table, its replies and
-- their choices, and the maps that it keeps.
abbrev pub HasReplied : Server → Server → Type 0
HasReplied s t =
    t ≡ record s {
      hand = None;
      table = t.table;
      sent = t.sent;
      choices = t.choices;
      kept = t.kept;
    }

-- An application replied to the packet in its hand in one visit, with the queue of this packet, and
-- noted the reply and the choice.
pub record RepliesToHand (given : Setup) (late : List Arrival) (s t : Server)
    (old new : BoardSeatView) (hint_old hint_new : HintView) : Type 0 where
  pub sent : Sent
  pub turn : Turn
  pub hint_mid : HintView
  pub hand : s.hand ≡ Some sent.id
  pub queued : Queued (length given.homes) sent.id late hint_old hint_mid (Some sent.rxq)
  pub replies : Replies given s.app s.home sent s.table t.table turn old new hint_mid hint_new
  pub notes_sent : t.sent ≡ grown s.sent sent
  pub notes_choice : t.choices ≡ grown s.choices turn.chosen
  pub same : HasReplied s t

-- what an application did, by whether it replied
abbrev pub RepliesOrKeeps : Setup → List Arrival → Server → Server → BoardSeatView
    → BoardSeatView → HintView → HintView → Bool → Type 0
RepliesOrKeeps given late s t old new hint_old hint_new true =
    RepliesToHand given late s t old new hint_old hint_new
RepliesOrKeeps given late s t old new hint_old hint_new false =
    KeepsHand (length given.homes) late s t old new hint_old hint_new

-- ---- what an application keeps of itself

-- the number of packets in a hand
abbrev pub in_hand : Option ℕ → ℕ
in_hand None = 0
in_hand (Some id) = 1

-- The flows of the first packets have numbers below so many.
abbrev pub HasFlowsBelow : Setup → ℕ → ℕ → Type 0
HasFlowsBelow given packets flows =
    (id : ℕ) → id < packets → flow_number_of given id < flows

-- What an application keeps of itself: its journals are of one room, which its hand counts against;
-- there is a choice for each reply, at most one write for each packet that was taken, and a class
-- for each packet's flow; its table names transmit queues.
pub record IsServer (given : Setup) (s : Server) : Type 0 where
  pub app : s.app < 32
  pub few : s.sent.room ≤ MAX_PACKETS
  pub choice_room : s.choices.room ≡ s.sent.room
  pub write_room : s.writes.room ≡ s.sent.room
  pub hand : IfSome s.hand (λ id. id < s.sent.room)
  pub room : length s.sent.items + in_hand s.hand ≤ s.sent.room
  pub choices : length s.choices.items ≡ length s.sent.items
  pub writes : length s.writes.items ≤ length s.sent.items + in_hand s.hand
  pub classes : HasFlowsBelow given s.sent.room (length s.table.rows)
  pub lanes : HasLanesBelow given.txs s.table
