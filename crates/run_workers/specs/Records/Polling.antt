-- What a poller keeps of all its turns: what each read, and by what it chose. Lists of turns and
-- of steps have the newest first (kernel scaling chapter, sections RPS and RFS).
use Rattle.std.specs.Prelude.{◌≡◌, ℕ, ◌<◌, false, List, [], ◌∷◌, ◌++◌, Option, Some, None}
use Rattle.std.specs.Prelude.{length, map, nat_lt, All, IfSome, if◌then◌else◌}
use Rattle.std.specs.List.{filter_map}
use Rattle.std.specs.Option.{is_some}
use Rattle.rtrb.specs.Ring.{received}
use Rattle.linearization.specs.Orders.{StepBy, steps_of}
use Rattle.steer_base.specs.Counters.{rounded_up}
use Rattle.steer_base.specs.declared.choice.Chosen.{Chosen}
use Rattle.dev_flow_table.specs.Folds.{after_turn}
use Rattle.dev_flow_table.specs.Tables.{Table, cleared}
use Rattle.hint_words.specs.declared.step.HintStep.{HintStep}
use Rattle.hint_words.specs.declared.step.HintStep.TheVariants.{Load, Store}
use Rattle.board_api.specs.StepWords.{openings_in}
use Rattle.hop_rule.specs.Moments.{nth_step}
use Rattle.hop_rule.specs.declared.step.BoardStep.{BoardStep}
use Rattle.hop_delivery.specs.Orders.Turns.{Turn}
use Rattle.steer_model.specs.State.Setup.{Setup, packet_hash}
use Rattle.run_words.specs.Numbers.{hint_number}
use Rattle.run_words.specs.Values.{flows_in, place_in, socket_size_in}
use Rattle.run_words.specs.declared.hint_word.HintWord.TheVariants as hint
use Rattle.run_words.specs.declared.values.TheConstants.{STEERED}
use Rattle.run_workers.specs.Hands.Pollers.{AreRead, LoadedHead, as_told, choice_read, class_read}
use Rattle.run_workers.specs.Hands.Pollers.{count_after}
use Rattle.run_workers.specs.Hands.Pollers.{looks_to_head, refreshed, socket_entry}
use Rattle.run_workers.specs.declared.poller.Poller.{Poller}
use Rattle.run_workers.specs.declared.poller.Reading.{Reading}
use Rattle.run_words.specs.Lists.{oldest_first}
use Rattle.run_workers.specs.Records.Growth.{held}
use Rattle.run_workers.specs.Records.Words.{Mark}

-- A turn of a poller, the settings by which it was, the step of its seat at the hint words by which
-- it looked up the socket flow table, if it did, and the step by which it marked its packet.
pub record PolledTurn : Type 0 where
  pub turn : Turn
  pub reading : Reading
  pub look : Option ℕ
  pub mark : ℕ

-- the turns alone
abbrev pub turns_in : List PolledTurn → List Turn
turns_in polled = map (λ (s : PolledTurn). s.turn) polled

-- the marks of turns
abbrev pub marks_in : List PolledTurn → List Mark
marks_in polled =
    map (λ (s : PolledTurn). record { packet = s.turn.chosen.id; number = s.mark }) polled

-- the choices of turns, the oldest first
abbrev pub choices_in : List Turn → List Chosen
choices_in turns = map (λ (u : Turn). u.chosen) (oldest_first turns)

-- the numbers that name packets, of so many
abbrev pub packet_of_number : ℕ → ℕ → Option ℕ
packet_of_number packets x = if nat_lt x packets then Some x else None

abbrev pub ring_packets : ℕ → List ℕ → List ℕ
ring_packets packets numbers = filter_map (packet_of_number packets) numbers

-- The processor that was wanted is that of a word that was loaded for this entry with this step;
-- without an entry there was no such step, and none was wanted.
abbrev pub HasLookedUp : ℕ → (entry : Option ℕ) → List HintStep → (look want : Option ℕ) → Type 0
HasLookedUp cpus None hints look want = (look ≡ None) × (want ≡ None)
HasLookedUp cpus (Some entry) hints look want =
    (n : ℕ) × (word : ℕ) × (look ≡ Some n) × (nth_step hints n ≡ Some (Load entry word))
    × (want ≡ place_in word cpus)

-- A look with this step came after those of all these turns.
abbrev pub IsLastLook : List PolledTurn → ℕ → Type 0
IsLastLook ss n = All (λ (s : PolledTurn). IfSome s.look (λ m. m < n)) ss

-- A step came after the marks of all these turns.
abbrev pub IsLastMark : List PolledTurn → ℕ → Type 0
IsLastMark ss n = All (λ (s : PolledTurn). s.mark < n) ss

-- how many of these turns had their packets accepted
abbrev pub accepted_turns : List PolledTurn → ℕ
accepted_turns [] = 0
accepted_turns (s ∷ ss) = count_after (accepted_turns ss) s.turn.answer

module _ (first start : ℕ) where
  -- the flow word that was read last, and at first this one
  abbrev pub last_flows : List PolledTurn → ℕ
  last_flows [] = first
  last_flows (s ∷ ss) = s.reading.flows

  -- The flow table after these turns. It was cleared at each turn that read another flow word than
  -- the one before it, and told of each turn.
  abbrev pub polled_table : List PolledTurn → Table
  polled_table [] = cleared (rounded_up (flows_in first)) start false
  polled_table (s ∷ ss) =
      after_turn (refreshed (last_flows ss) s.reading.flows (polled_table ss))
      (as_told s.turn)

  -- the flow table by which a turn chose, after these turns
  abbrev pub table_of_turn : List PolledTurn → PolledTurn → Table
  table_of_turn ss s = refreshed (last_flows ss) s.reading.flows (polled_table ss)

  module _ (given : Setup) (packets q : ℕ) (rx : List BoardStep) (hints : List HintStep)
    where
      -- A turn of queue q, after these, was by what it looked up and loaded in its visit, and by
      -- settings that its seat read in a visit with the same number: its choice is the rule's for
      -- these, and the packet was put with its hash. It marked the packet after its look and after
      -- the marks of all these turns.
      pub record IsPolled (ss : List PolledTurn) (s : PolledTurn) : Type 0 where
        pub within : s.turn.chosen.id < packets
        pub hash : s.turn.hash ≡ packet_hash given s.turn.chosen.id
        pub reads : AreRead (length given.homes) q s.reading rx (openings_in s.turn.word)
        pub want : Option ℕ
        pub looks : HasLookedUp given.cpus
            (socket_entry (socket_size_in s.reading.socket)
            (class_read given s.turn.chosen.id (table_of_turn ss s))
            (packet_hash given s.turn.chosen.id)) hints s.look want
        pub last : IfSome s.look (IsLastLook ss)
        pub marked : nth_step hints s.mark
            ≡ Some (Store (hint_number (hint.Steered s.turn.chosen.id)) STEERED)
        pub marked_late : IfSome s.look (λ m. m < s.mark)
        pub marked_last : IsLastMark ss s.mark
        pub head : Option ℕ
        pub loads : IfSome head (LoadedHead (table_of_turn ss s)
            (class_read given s.turn.chosen.id (table_of_turn ss s)) s.turn.early)
        pub looked : is_some head
            ≡ looks_to_head given q s.turn.chosen.id s.reading (table_of_turn ss s) want
        pub rule : s.turn.chosen.choice
            ≡ choice_read given q s.turn.chosen.id s.reading (table_of_turn ss s) want head

      -- Each of the turns was so.
      abbrev pub AllPolled : List PolledTurn → Type 0
      AllPolled [] = Unit {0}
      AllPolled (s ∷ ss) = IsPolled ss s × AllPolled ss

-- What a poller keeps of its turns, which are among those that explain its seat's list, of their
-- marks among those of the seat, and of the steps of its seat at the board (`rx`) and at the hint
-- words. The journal has the choices of the turns; the packets that came out of the ring are those
-- that were chosen for, and the one in hand; the flow table and the count are those of the turns.
-- `first` is the queue's flow word at the start.
pub record IsPolling (given : Setup) (first start : ℕ) (p : Poller) (turns : List (StepBy Turn))
    (marks : List (StepBy Mark)) (rx : List BoardStep) (hints : List HintStep) : Type 0 where
  pub polled : List PolledTurn
  pub own : turns_in polled ≡ steps_of p.queue turns
  pub marked : marks_in polled ≡ steps_of p.queue marks
  pub journal : p.choices.items ≡ choices_in (steps_of p.queue turns)
  pub taken : ring_packets p.choices.room (received p.ring)
      ≡ map (λ (c : Chosen). c.id) p.choices.items ++ held p.hand
  pub flows : p.flows ≡ last_flows first start polled
  pub table : p.table ≡ polled_table first start polled
  pub accepted : p.accepted ≡ accepted_turns polled
  pub are : AllPolled first start given p.choices.room p.queue rx hints polled
