-- What an application keeps of all its packets and turns: where it found each, what it wrote and
-- read, and by what it chose. Lists of turns and of steps have the newest first (kernel scaling
-- chapter, sections RFS and XPS).
use Rattle.std.specs.Prelude.{◌≡◌, ℕ, ◌+◌, ◌*◌, ◌<◌, true, List, [], ◌∷◌, ◌++◌, Option, Some}
use Rattle.std.specs.Prelude.{None, IfSome, length, map, slice_get, slice_index, slice_index_or}
use Rattle.std.specs.Prelude.{unwrap_or}
use Rattle.std.specs.List.{Contains}
use Rattle.std.specs.Option.{is_some}
use Rattle.linearization.specs.Orders.{StepBy, steps_of}
use Rattle.steer_base.specs.Choices.{class_of, looks_at_head, migrate}
use Rattle.dev_flow_table.specs.Folds.{after_turn}
use Rattle.dev_flow_table.specs.Tables.{Table, cleared, entries}
use Rattle.history.specs.declared.arrival.Arrival.{Arrival}
use Rattle.history.specs.declared.sent.Sent.{Sent}
use Rattle.xps_map.specs.Maps.{Maps, no_cpus, picked}
use Rattle.hint_words.specs.declared.step.HintStep.{HintStep}
use Rattle.hint_words.specs.declared.step.HintStep.TheVariants.{Load}
use Rattle.hop_rule.specs.Boards.{gate_steps}
use Rattle.hop_rule.specs.Gates.{inside, visit}
use Rattle.hop_rule.specs.OutLanes.{OutList}
use Rattle.hop_rule.specs.declared.step.BoardStep.{BoardStep}
use Rattle.hop_rule.specs.declared.step.BoardStep.TheVariants.{Gate, Lane}
use Rattle.hop_rule.specs.declared.step.GateStep.TheVariants.{Read}
use Rattle.hop_rule.specs.declared.step.LaneStep.TheVariants.{OutHeld}
use Rattle.board_api.specs.OwnSteps.{ReadsIn}
use Rattle.board_api.specs.StepWords.{openings_in}
use Rattle.hop_delivery.specs.Orders.Turns.{Turn}
use Rattle.steer_model.specs.State.Setup.{Setup, flow_number_of, packet_hash}
use Rattle.run_words.specs.Numbers.{hint_number}
use Rattle.run_words.specs.Values.{cpus_in, place_in, queues_in, socket_size_in}
use Rattle.run_words.specs.declared.hint_word.HintWord.TheVariants as hint
use Rattle.run_words.specs.declared.hint_word.TheConstants.{STAND_WORDS}
use Rattle.run_workers.specs.Hands.Pollers.{LoadedHead, as_told}
use Rattle.run_workers.specs.Hands.Servers.{queue_by}
use Rattle.run_workers.specs.declared.server.Server.{Server}
use Rattle.run_words.specs.Lists.{oldest_first}
use Rattle.run_workers.specs.Records.Growth.{held}
use Rattle.run_workers.specs.Records.Polling.{choices_in}
use Rattle.run_workers.specs.Records.Words.{Note}

-- A turn of an application, the reply, and the values of the setting words that were read in visits
-- of its number.
pub record RepliedTurn : Type 0 where
  pub turn : Turn
  pub sent : Sent
  pub words : ℕ → ℕ

-- the turns alone
abbrev pub reply_turns : List RepliedTurn → List Turn
reply_turns replied = map (λ (r : RepliedTurn). r.turn) replied

-- the replies of turns, the oldest first
abbrev pub replies_in : List RepliedTurn → List Sent
replies_in replied = map (λ (r : RepliedTurn). r.sent) (oldest_first replied)

-- the packets that an application took, in order: those that it replied to and that in hand
abbrev pub taken_by : Server → List ℕ
taken_by s = map (λ (r : Sent). r.id) s.sent.items ++ held s.hand

-- ---- what was loaded, held and read

-- The processor is that of the application's word, which was loaded, or the home.
abbrev pub HasStood : (cpus app home : ℕ) → List HintStep → (cpu : ℕ) → Type 0
HasStood cpus app home hints cpu =
    (word : ℕ) × (cpu ≡ unwrap_or (place_in word cpus) home)
    × Contains hints (Load (STAND_WORDS + app) word)

-- The receive queue is that of the packet's word, which was loaded, or of its arrival.
abbrev pub HasCome : (queues : ℕ) → List Arrival → List HintStep → (id rxq : ℕ) → Type 0
HasCome queues arrivals hints id rxq =
    (word : ℕ) × (queue_by (place_in word queues) arrivals id ≡ Some rxq)
    × Contains hints (Load (hint_number (hint.Queue id)) word)

-- The out lane o was held, and this packet was at its index k.
pub record HasFound (rx : List BoardStep) (o k id : ℕ) : Type 0 where
  pub word : ℕ
  pub found : OutList
  pub held : Contains rx (Lane (OutHeld o word found))
  pub there : slice_get found.items k ≡ Some id

-- The setting was read in a visit.
pub record HasReadInside (rx : List BoardStep) (setting value : ℕ) : Type 0 where
  pub newer : List BoardStep
  pub older : List BoardStep
  pub are : rx ≡ newer ++ Gate (Read setting value) ∷ older
  pub in_visit : visit (gate_steps older) ≡ inside

module _ (given : Setup) (app home : ℕ) (rx : List BoardStep) (hints : List HintStep) where
  -- For this packet and entry the processor on which the application stood was written, and then
  -- the rest; for no entry the rest alone.
  abbrev pub HasWritten : (packet : ℕ) → Option ℕ → List Note → List Note → Type 0
  HasWritten id None rest notes = notes ≡ rest
  HasWritten id (Some entry) rest notes =
      (cpu : ℕ) × HasStood given.cpus app home hints cpu
      × (notes ≡ record { packet = id; write = record { entry = entry; cpu = cpu } } ∷ rest)

  -- For each packet in order the entry of its hash was written, by a socket size that was read in a
  -- visit; for a packet without an entry nothing.
  abbrev pub HasWrittenAll : List ℕ → List Note → Type 0
  HasWrittenAll [] notes = notes ≡ []
  HasWrittenAll (id ∷ ids) notes =
      (size : ℕ) × (rest : List Note) × HasReadInside rx (2 * length given.homes) size
      × HasWritten id (class_of (socket_size_in size) (packet_hash given id)) rest notes
      × HasWrittenAll ids rest

-- ---- the turns

module _ (rows start : ℕ) where
  -- the flow table after these turns, which was told of each
  abbrev pub replied_table : List RepliedTurn → Table
  replied_table [] = cleared rows start true
  replied_table (r ∷ rs) = after_turn (replied_table rs) (as_told r.turn)

  module _ (given : Setup) (packets app home : ℕ) (arrivals : List Arrival)
      (hints : List HintStep) (tx : List BoardStep) where
    -- A turn after these was by the maps that were read in visits of its number, by the packet's
    -- queue and the application's processor as they were loaded, and by the head that was loaded:
    -- its choice is the rule's for these, and the packet was put with its hash.
    pub record IsReplied (rs : List RepliedTurn) (r : RepliedTurn) : Type 0 where
      pub within : r.sent.id < packets
      pub id_is : r.turn.chosen.id ≡ r.sent.id
      pub hash : r.turn.hash ≡ packet_hash given r.sent.id
      pub cpu_reads : (n : ℕ) → n < given.txs
          → ReadsIn tx (openings_in r.turn.word) n (r.words n)
      pub queue_reads : (n : ℕ) → n < given.txs
          → ReadsIn tx (openings_in r.turn.word) (given.txs + n) (r.words (given.txs + n))
      pub maps : Maps
      pub count : maps.count ≡ given.txs
      pub cpus_are : (n : ℕ) → n < given.txs
          → slice_index_or maps.cpus n no_cpus ≡ cpus_in (r.words n) given.cpus
      pub queues_are : (n : ℕ) → n < given.txs
          → slice_index maps.queues n ≡ queues_in (r.words (given.txs + n)) (length given.homes)
      pub stood : HasStood given.cpus app home hints r.sent.cpu
      pub came : HasCome (length given.homes) arrivals hints r.sent.id r.sent.rxq
      pub head : Option ℕ
      pub loads : IfSome head
          (LoadedHead (replied_table rs) (Some (flow_number_of given r.sent.id)) r.turn.early)
      pub looked : is_some head
          ≡ looks_at_head (Some (flow_number_of given r.sent.id)) (entries (replied_table rs))
          (picked maps r.sent.rxq r.sent.cpu (packet_hash given r.sent.id)) (λ _. true)
      pub rule : r.turn.chosen.choice
          ≡ migrate (Some (flow_number_of given r.sent.id))
          (Some (picked maps r.sent.rxq r.sent.cpu (packet_hash given r.sent.id)))
          (picked maps r.sent.rxq r.sent.cpu (packet_hash given r.sent.id))
          (entries (replied_table rs)) (λ _. unwrap_or head 0) (λ _. true)

    -- Each of the turns was so.
    abbrev pub EachReplied : List RepliedTurn → Type 0
    EachReplied [] = Unit {0}
    EachReplied (r ∷ rs) = IsReplied rs r × EachReplied rs

-- What an application keeps of its packets and of its turns, which are among those that explain its
-- seat's list at the transmit board, by the steps of its seats at both boards and at the hint
-- words. It found each packet at its place in the inbox, wrote for each, which are its notes among
-- those of the seat, and replied to each but the one in hand; the journals and the flow table are
-- those of the turns.
pub record IsReplying (given : Setup) (rows start : ℕ) (arrivals : List Arrival) (s : Server)
    (turns : List (StepBy Turn)) (noted : List (StepBy Note)) (rx tx : List BoardStep)
    (hints : List HintStep) : Type 0 where
  pub replied : List RepliedTurn
  pub own : reply_turns replied ≡ steps_of s.app turns
  pub replies : s.sent.items ≡ replies_in replied
  pub choices : s.choices.items ≡ choices_in (steps_of s.app turns)
  pub table : s.table ≡ replied_table rows start replied
  pub found : (k id : ℕ) → slice_get (taken_by s) k ≡ Some id → HasFound rx s.app k id
  pub notes : HasWrittenAll given s.app s.home rx hints (taken_by s)
      (oldest_first (steps_of s.app noted))
  pub writes : s.writes.items ≡ map (λ (n : Note). n.write) (oldest_first (steps_of s.app noted))
  pub are : EachReplied rows start given s.sent.room s.app s.home arrivals hints tx replied
