-- What producers did on a board, and how settings steer their packets (kernel scaling chapter,
-- sections RPS, RFS and XPS).
use Rattle.std.specs.{List.Contains, Prelude.◌≡◌, Prelude.◌≢◌, Prelude.ℕ, Prelude.◌<◌, Prelude.◌/◌}
use Rattle.std.specs.Prelude.{◌%◌, ◌^◌, Bool, true, false, List, Option, Some, None, take, drop}
use Rattle.steer_base.specs.{Choices.migrate, Entries.entry, Entries.of_class, Entries.current_lane}
use Rattle.steer_base.specs.declared.choice.Chosen.{Chosen}
use Rattle.linearization.specs.Orders.{StepBy, steps_of}
use Rattle.dev_flow_table.specs.Walks.{since_resize}
use Rattle.hop_rule.specs.{Boards.gate_steps, Gates.opened, Gates.own_settings, Gates.with_setting}
use Rattle.hop_rule.specs.{Moments.nth_step, Sizes.closer, declared.sizes.BoardSizes.BoardSizes}
use Rattle.hop_rule.specs.declared.step.BoardStep.{BoardStep, TheVariants.Weighed}
use Rattle.hop_delivery.specs.Orders.Turns.{Turn}

-- What producers did: for each producer the packets that arrived and the choices, the oldest first,
-- and the seat that makes its puts; for each seat the turns that explain its own list, the newest
-- first.
pub record Execution : Type 0 where
  pub arrivals : ℕ → List ℕ
  pub choices : ℕ → List Chosen
  pub seat : ℕ → ℕ
  pub turns : ℕ → List (StepBy Turn)

-- The turns of a producer, the newest first.
abbrev pub turns_of : Execution → ℕ → List Turn
turns_of t p = steps_of p (t.turns (t.seat p))

-- How settings steer packets. Settings are the values of the setting words.
pub record Steering : Type 0 where
  pub flow : ℕ → ℕ  -- the flow of a packet
  pub to : ℕ → ℕ  -- the out lane of a flow
  pub shape : (ℕ → ℕ) → ℕ → ℕ  -- by settings and producer: what a resize changes
  pub class : ℕ → ℕ → Option ℕ  -- by such a shape and flow: the class
  pub plain : (ℕ → ℕ) → ℕ → ℕ → ℕ  -- by settings, producer and flow: the lane without a class
  pub desired : (ℕ → ℕ) → ℕ → ℕ → Option ℕ → ℕ  -- and by what was wanted: the lane with a class
  pub online : (ℕ → ℕ) → ℕ → Bool  -- by settings: whether a lane is online
  -- by settings, a word and its new value: whether a lane has to be empty
  pub affects : (ℕ → ℕ) → ℕ → ℕ → ℕ → Bool

-- A change of one setting requires to be empty: each lane that it turns off, each lane to which
-- packets without a class go before the change and not after it, and all lanes if it resizes.
pub record IsSteering (lanes : ℕ) (r : Steering) : Type 0 where
  pub off : (s : ℕ → ℕ) (w v l : ℕ) → l < lanes → r.online s l ≡ true
      → r.online (with_setting s w v) l ≡ false → r.affects s w v l ≡ true
  pub moves : (s : ℕ → ℕ) (w v p f : ℕ) → r.plain s p f ≢ r.plain (with_setting s w v) p f
      → r.affects s w v (r.plain s p f) ≡ true
  pub resizes : (s : ℕ → ℕ) (w v p l : ℕ) → l < lanes
      → r.shape s p ≢ r.shape (with_setting s w v) p → r.affects s w v l ≡ true

-- The lane to which a packet is to go, with or without a class.
abbrev pub goal_of : Steering → (ℕ → ℕ) → ℕ → ℕ → Option ℕ → Option ℕ → ℕ
goal_of r s p f None want = r.plain s p f
goal_of r s p f (Some class) want = r.desired s p f want

-- The word that the entry of a turn's visit found.
abbrev pub word_of : Option Turn → ℕ
word_of None = 0
word_of (Some u) = u.word

module _ (about : BoardSizes) (own : ℕ → List BoardStep) where
  -- The settings of a visit whose entry found this word: those after the closer's sets before the
  -- last opening that the word counts.
  abbrev pub settings_of_visit : ℕ → ℕ → ℕ
  settings_of_visit word =
      own_settings about (opened (word / 2 ^ 32) (gate_steps (own (closer about))))

  module _ (accepted : ℕ → List ℕ) (t : Execution) (r : Steering) where
    -- The settings of the visit of the producer's i-th turn.
    abbrev pub settings_at : ℕ → ℕ → ℕ → ℕ
    settings_at p i = settings_of_visit (word_of (nth_step (turns_of t p) i))

    -- The shape of the producer by the settings of its i-th turn.
    abbrev pub shape_at : ℕ → ℕ → ℕ
    shape_at p i = r.shape (settings_at p i) p

    -- The flow of the packet of a turn.
    abbrev pub flow_at : Turn → ℕ
    flow_at u = r.flow u.chosen.id

    -- The class of the producer's i-th turn.
    abbrev pub class_at : ℕ → ℕ → Turn → Option ℕ
    class_at p i u = r.class (shape_at p i) (flow_at u)

    -- The choices of the producer before the i-th, since its last resize.
    abbrev pub before : ℕ → ℕ → List Chosen
    before p i = drop (since_resize (shape_at p) i) (take i (t.choices p))

    -- The lane to which the packet of the producer's i-th turn is to go.
    abbrev pub goal_at : ℕ → ℕ → Turn → ℕ
    goal_at p i u = goal_of r (settings_at p i) p (flow_at u) (class_at p i u) u.chosen.choice.want

    -- The choice of the producer's i-th turn is by the migration rule, with the settings of its
    -- visit, over the entry of its class. A head that it keeps was loaded in the visit, before the
    -- put, from the class's current lane. The lane to which the packet is to go is online.
    pub record IsByRule (p i : ℕ) (u : Turn) : Type 0 where
      pub head : ℕ
      pub rule : u.chosen.choice ≡ migrate (class_at p i u) u.chosen.choice.want (goal_at p i u)
          (entry about.start accepted (before p i)) (λ _. head) (r.online (settings_at p i))
      pub loaded : (k l : ℕ) → class_at p i u ≡ Some k
          → current_lane (of_class k (before p i)) ≡ Some l → u.chosen.choice.head ≡ Some head
          → (w : ℕ) × Contains u.early (Weighed l w) × (w % 2 ^ 32 ≡ head)
      pub goal_online : r.online (settings_at p i) (goal_at p i u) ≡ true
