-- The settings that a turn knows, and choices by what it knows.
use Rattle.std.specs.{List.Contains, Prelude.◌≡◌}
use Rattle.std.specs.Prelude.{◌⊎◌, ℕ, ◌*◌, ◌%◌, ◌^◌, ◌<◌, ◌≤◌, true, List, Option, Some, take, drop}
use Rattle.steer_base.specs.{Choices.migrate, Entries.entry, Entries.of_class, Entries.current_lane}
use Rattle.steer_base.specs.declared.choice.Chosen.{Chosen}
use Rattle.dev_flow_table.specs.Walks.{since_resize}
use Rattle.hop_rule.specs.{Moments.nth_step, declared.sizes.BoardSizes.BoardSizes}
use Rattle.hop_rule.specs.declared.step.BoardStep.{BoardStep, TheVariants.Gate, TheVariants.Weighed}
use Rattle.hop_rule.specs.declared.step.GateStep.TheVariants.{Read}
use Rattle.board_api.specs.{OwnSteps.ReadsIn, StepWords.openings_in}
use Rattle.board_api.specs.declared.lists.BoardLists.{BoardLists}
use Rattle.hop_delivery.specs.Closings.FlowLaw.{accepted_left}
use Rattle.hop_delivery.specs.Orders.ReceiveSettings.{Queues, queues, receive_steering, flows_word}
use Rattle.hop_delivery.specs.Orders.ReceiveSettings.{mask_word, online_word}
use Rattle.hop_delivery.specs.Orders.Runs.{Execution, Steering, IsByRule, goal_of}
use Rattle.hop_delivery.specs.Orders.Runs.{settings_of_visit, turns_of}
use Rattle.hop_delivery.specs.Orders.{TransmitSettings.pick_by, Turns.Turn, Turns.Explained}

-- The turn read this value of a setting word, between its entry and its put.
abbrev pub HasRead : Turn → ℕ → ℕ → Type 0
HasRead u word value = Contains u.early (Gate (Read word value))

-- A turn of a seat with these steps knows this value of a setting word: it read it, or the seat has
-- kept it from another visit with the same number.
abbrev pub Knows : List BoardStep → Turn → ℕ → ℕ → Type 0
Knows own u word value = HasRead u word value ⊎ ReadsIn own (openings_in u.word) word value

module _ (about : BoardSizes) (own : ℕ → List BoardStep) (lists : BoardLists) where
  -- The settings that a turn knows are those of its visit.
  abbrev pub TurnsKnowSettings : Type 0
  TurnsKnowSettings = (t : Execution) (p i word value : ℕ) (u : Turn)
      → Explained (own (t.seat p)) (t.turns (t.seat p)) → nth_step (turns_of t p) i ≡ Some u
      → Knows (own (t.seat p)) u word value → value ≡ settings_of_visit about own u.word word

-- ---- receive boards

-- A turn of queue p, of a seat with these steps, knows the queue's mask, its flow count and the
-- online mask, and these are as in s.
pub record HasSeen (own : List BoardStep) (q : Queues) (p : ℕ) (u : Turn) (s : ℕ → ℕ) : Type 0 where
  pub mask : Knows own u (mask_word q p) (s (mask_word q p))
  pub flows : Knows own u (flows_word q p) (s (flows_word q p))
  pub online : Knows own u (online_word q) (s (online_word q))

module _ (about : BoardSizes) (accepted : ℕ → List ℕ) (t : Execution) (r : Steering)
    (seen : ℕ → ℕ → ℕ) where
  -- The shape of a producer by the settings that its i-th turn has seen.
  abbrev pub shape_seen : ℕ → ℕ → ℕ
  shape_seen p i = r.shape (seen i) p

  -- The class of a producer's i-th turn by the settings that it has seen.
  abbrev pub class_seen : ℕ → ℕ → Turn → Option ℕ
  class_seen p i u = r.class (shape_seen p i) (r.flow u.chosen.id)

  -- The choices of the producer before the i-th, since the last turn that saw another shape than
  -- the one before it.
  abbrev pub before_seen : ℕ → ℕ → List Chosen
  before_seen p i = drop (since_resize (shape_seen p) i) (take i (t.choices p))

  -- The lane to which the packet of a producer's i-th turn is to go, by the settings that it has
  -- seen.
  abbrev pub goal_seen : ℕ → ℕ → Turn → ℕ
  goal_seen p i u =
      goal_of r (seen i) p (r.flow u.chosen.id) (class_seen p i u) u.chosen.choice.want

  -- The choice of a producer's i-th turn is by the migration rule with the settings that the
  -- producer's turns have seen, the i-th of them `seen i`.
  pub record IsBySeen (p i : ℕ) (u : Turn) : Type 0 where
    pub head : ℕ
    pub rule : u.chosen.choice ≡ migrate (class_seen p i u) u.chosen.choice.want (goal_seen p i u)
        (entry about.start accepted (before_seen p i)) (λ _. head) (r.online (seen i))
    pub loaded : (k l : ℕ) → class_seen p i u ≡ Some k
        → current_lane (of_class k (before_seen p i)) ≡ Some l → u.chosen.choice.head ≡ Some head
        → (w : ℕ) × Contains u.early (Weighed l w) × (w % 2 ^ 32 ≡ head)
    pub goal_online : r.online (seen i) (goal_seen p i u) ≡ true

module _ (about : BoardSizes) (own : ℕ → List BoardStep) (lists : BoardLists) where
  -- If the turns of a queue up to the i-th have seen settings, a choice by these is by the rule
  -- that the premises of delivery in order ask for.
  abbrev pub RulesAreByReads : Type 0
  RulesAreByReads =
      (q : Queues) (t : Execution) (seen : ℕ → ℕ → ℕ) (p i : ℕ) (u : Turn) → p < queues q
      → Explained (own (t.seat p)) (t.turns (t.seat p)) → nth_step (turns_of t p) i ≡ Some u
      → ((j : ℕ) (v : Turn) → j ≤ i → nth_step (turns_of t p) j ≡ Some v
      → HasSeen (own (t.seat p)) q p v (seen j))
      → IsBySeen about (accepted_left lists) t (receive_steering q) seen p i u
      → IsByRule about own (accepted_left lists) t (receive_steering q) p i u

-- ---- transmit boards

-- A turn of a seat with these steps knows the maps of so many transmit queues, and these are as in
-- s.
abbrev pub KnowsMaps : List BoardStep → ℕ → Turn → (ℕ → ℕ) → Type 0
KnowsMaps own count u s = (word : ℕ) → word < 2 * count → Knows own u word (s word)

module _ (about : BoardSizes) (own : ℕ → List BoardStep) (lists : BoardLists) where
  -- The transmit queue that is picked by the maps that a turn knows is the one that is picked by
  -- those of its visit.
  abbrev pub PicksAreByReads : Type 0
  PicksAreByReads = (t : Execution) (p i count : ℕ) (u : Turn) (s : ℕ → ℕ)
      → Explained (own (t.seat p)) (t.turns (t.seat p)) → nth_step (turns_of t p) i ≡ Some u
      → KnowsMaps (own (t.seat p)) count u s → (rxq cpu : ℕ) (hash : Option ℕ)
      → pick_by count s rxq cpu hash
      ≡ pick_by count (settings_of_visit about own u.word) rxq cpu hash
