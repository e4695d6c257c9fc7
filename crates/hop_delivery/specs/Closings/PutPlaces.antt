-- Each put is a turn's, no packet is put twice, and so the answer of a put is the packet's place.
use Rattle.std.specs.Prelude.{◌≡◌, ℕ, ◌<◌, List, Option, Some, length, slice_get, slice_index, All}
use Rattle.linearization.specs.Orders.{StepBy}
use Rattle.steer_base.specs.{Entries.place_in, declared.put.LaneDrop.LaneDrop, declared.put.Put.Put}
use Rattle.dev_flow_table.specs.Folds.{IsPutAt}
use Rattle.history.specs.Lists.{lane_at}
use Rattle.hop_rule.specs.Moments.{nth_step}
use Rattle.hop_rule.specs.declared.{sizes.BoardSizes.BoardSizes, step.BoardStep.BoardStep}
use Rattle.board_api.specs.{OwnSteps.Has, OwnSteps.put_step, declared.lists.BoardLists.BoardLists}
use Rattle.hop_delivery.specs.Closings.FlowLaw.{accepted_left}
use Rattle.hop_delivery.specs.Orders.{Runs.Execution, Runs.turns_of, Turns.Turn, Turns.Explained}

-- No packet is put twice: two own steps that put it are one step of one seat.
abbrev pub PutsAreOnce : (ℕ → List BoardStep) → Type 0
PutsAreOnce own = (p q j k l m id : ℕ) (hash other : Option ℕ) (answer reply : Put)
    → Has (own p) j (put_step l id hash answer) → Has (own q) k (put_step m id other reply)
    → (p ≡ q) × (j ≡ k)

-- The first two premises of delivery in order, without the choices: no packet arrives twice, a
-- seat's puts are those of its turns, and a producer's turns are by its seat and for its first
-- arrivals, in order.
pub record AreTurnsOf (own : ℕ → List BoardStep) (t : Execution) : Type 0 where
  pub once : (p q i j : ℕ) → i < length (t.arrivals p) → j < length (t.arrivals q)
      → slice_index (t.arrivals p) i ≡ slice_index (t.arrivals q) j → (p ≡ q) × (i ≡ j)
  pub explained : (q : ℕ) → Explained (own q) (t.turns q)
  pub by_seat : (q : ℕ) → All (λ (e : StepBy Turn). t.seat e.by ≡ q) (t.turns q)
  pub arrived : (p i : ℕ) (u : Turn) → nth_step (turns_of t p) i ≡ Some u
      → slice_get (t.arrivals p) i ≡ Some u.chosen.id

-- Own lists whose puts are turns for arrivals put no packet twice.
abbrev pub TurnsPutOnce : Type 0
TurnsPutOnce = (own : ℕ → List BoardStep) (t : Execution) → AreTurnsOf own t → PutsAreOnce own

-- If no packet is put twice, the answer of a put is the packet's place among those that its lane
-- accepted; a dropped packet is not among them.
abbrev pub AnswersArePlaces : BoardSizes → (ℕ → List BoardStep) → BoardLists → Type 0
AnswersArePlaces about own lists = PutsAreOnce own → (q k l id : ℕ) (hash : Option ℕ) (answer : Put)
    → Has (own q) k (put_step l id hash answer)
    → IsPutAt about.start (place_in id (accepted_left lists l)) (Some answer)

-- Some turn of a producer chose this lane for the packet.
pub record HasTurn (t : Execution) (l id : ℕ) : Type 0 where
  pub producer : ℕ
  pub index : ℕ
  pub turn : Turn
  pub is : nth_step (turns_of t producer) index ≡ Some turn
  pub same_id : turn.chosen.id ≡ id
  pub same_lane : turn.chosen.choice.lane ≡ l

-- Each accepted and each dropped packet has a turn that chose its lane, and no packet is twice
-- among all accepted and dropped ones.
pub record PacketsStandOnce (about : BoardSizes) (own : ℕ → List BoardStep) (lists : BoardLists)
    (t : Execution) : Type 0 where
  pub accepted : (l n id : ℕ) → slice_get (accepted_left lists l) n ≡ Some id → HasTurn t l id
  pub dropped : (l n : ℕ) (d : LaneDrop) → slice_get (lane_at lists.lanes l).drops n ≡ Some d
      → HasTurn t l d.id
  pub accepted_once : (l m i j id : ℕ) → slice_get (accepted_left lists l) i ≡ Some id
      → slice_get (accepted_left lists m) j ≡ Some id → (l ≡ m) × (i ≡ j)
  pub dropped_once : (l m i j : ℕ) (d e : LaneDrop)
      → slice_get (lane_at lists.lanes l).drops i ≡ Some d
      → slice_get (lane_at lists.lanes m).drops j ≡ Some e → d.id ≡ e.id → (l ≡ m) × (i ≡ j)
  pub apart : (l m i j : ℕ) (d : LaneDrop) → slice_get (accepted_left lists l) i ≡ Some d.id
      → slice_get (lane_at lists.lanes m).drops j ≡ Some d → ⊥

-- If the puts are turns for arrivals, accepted and dropped packets have their turns, as
-- `PacketsStandOnce` says.
abbrev pub PacketsStand : BoardSizes → (ℕ → List BoardStep) → BoardLists → Type 0
PacketsStand about own lists =
    (t : Execution) → AreTurnsOf own t → PacketsStandOnce about own lists t
