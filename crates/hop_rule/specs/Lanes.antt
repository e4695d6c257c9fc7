-- Steps at lanes: what one order of them leaves, what each seat's own steps show, and when a step
-- may come. A middle lane and its head are the kernel's backlog of a processor with its
-- `input_queue_head`. Orders and lists of steps have the newest first.
use Rattle.std.specs.Prelude.{◌≡◌, ℕ, zero, suc, ◌+◌, ◌*◌, ◌<◌, ◌==◌, List, [], ◌∷◌, ◌++◌}
use Rattle.std.specs.Prelude.{Option, Some, None, length, if◌then◌else◌}
use Rattle.steer_base.specs.Lanes.{LaneLists}
use Rattle.steer_base.specs.Sets.{has}
use Rattle.backlog.specs.Puts.{new_lane, after_put, put_answer, put_count, next_waiting}
use Rattle.linearization.specs.Orders.{StepBy, steps_of}
use Rattle.hop_rule.specs.OutLanes.{OutList, out_list}
use Rattle.hop_rule.specs.Sizes.{puller}
use Rattle.hop_rule.specs.declared.sizes.BoardSizes.{BoardSizes}
use Rattle.hop_rule.specs.declared.step.Change.{Change}
use Rattle.hop_rule.specs.declared.step.Change.TheVariants.{Nothing, Offered, Pulled}
use Rattle.hop_rule.specs.declared.step.LaneStep.{LaneStep}
use Rattle.hop_rule.specs.declared.step.LaneStep.TheVariants.{Held, Missed, Freed, OutHeld}
use Rattle.hop_rule.specs.declared.step.LaneStep.TheVariants.{OutMissed, OutFreed, Given, Retired}

-- ---- what an order leaves

-- A middle lane after a release with this change.
abbrev pub lane_changed : Change → LaneLists → LaneLists
lane_changed Nothing x = x
lane_changed (Offered id hash answer) x = after_put x id hash
lane_changed (Pulled id) x = record x { pulled = x.pulled + 1 }

-- The middle lane l after a step.
abbrev pub lane_after_step : ℕ → LaneStep → LaneLists → LaneLists
lane_after_step l (Freed i c) x = if i == l then lane_changed c x else x
lane_after_step l _ x = x

-- The packets in the out lane o after a step.
abbrev pub out_after : ℕ → LaneStep → List ℕ → List ℕ
out_after o (Given i from id place) xs = if i == o then xs ++ id ∷ [] else xs
out_after o _ xs = xs

-- The holder of the middle lane l after a step of the seat p: 0 for nobody, otherwise the holder's
-- number plus 1.
abbrev pub holder_after : (lane seat : ℕ) → LaneStep → (holder : ℕ) → ℕ
holder_after l p (Held i w x) h = if i == l then suc p else h
holder_after l p (Freed i c) h = if i == l then 0 else h
holder_after l p _ h = h

-- The holder of the out lane o after a step of the seat p: 0 for nobody, otherwise the holder's
-- number plus 1.
abbrev pub out_holder_after : (out seat : ℕ) → LaneStep → (holder : ℕ) → ℕ
out_holder_after o p (OutHeld i w x) h = if i == o then suc p else h
out_holder_after o p (OutFreed i) h = if i == o then 0 else h
out_holder_after o p (Given i from id place) h = if i == o then 0 else h
out_holder_after o p _ h = h

-- The number of times that the head of the lane l was raised, after a step.
abbrev pub retired_after : ℕ → LaneStep → ℕ → ℕ
retired_after l (Retired i w) n = if i == l then n + 1 else n
retired_after l _ n = n

-- The holder of the middle lane l after an order: 0 for nobody, otherwise the holder's number plus
-- 1.
abbrev pub holder : ℕ → List (StepBy LaneStep) → ℕ
holder l [] = 0
holder l (e ∷ es) = holder_after l e.by e.step (holder l es)

-- The holder of the out lane o after an order: 0 for nobody, otherwise the holder's number plus 1.
abbrev pub out_holder : ℕ → List (StepBy LaneStep) → ℕ
out_holder o [] = 0
out_holder o (e ∷ es) = out_holder_after o e.by e.step (out_holder o es)

-- The number of times that the head of the lane l was raised in an order.
abbrev pub retired : ℕ → List (StepBy LaneStep) → ℕ
retired l [] = 0
retired l (e ∷ es) = retired_after l e.step (retired l es)

-- The packets that an order delivered to the out lane o.
abbrev pub out : ℕ → List (StepBy LaneStep) → List ℕ
out o [] = []
out o (e ∷ es) = out_after o e.step (out o es)

-- The lowest bit of the word of a lane: 1 if a seat holds it, otherwise 0.
abbrev pub bit : ℕ → ℕ
bit zero = 0
bit (suc p) = 1

-- ---- what a seat knows by its own steps

-- What a seat found at its hold of the middle lane l, if it holds the lane after a step.
abbrev pub holding_after : ℕ → LaneStep → Option LaneLists → Option LaneLists
holding_after l (Held i w x) o = if i == l then Some x else o
holding_after l (Freed i c) o = if i == l then None else o
holding_after l _ o = o

-- What a seat found at its hold of the middle lane l, if it holds the lane by its own steps.
abbrev pub holding : ℕ → List LaneStep → Option LaneLists
holding l [] = None
holding l (d ∷ ds) = holding_after l d (holding l ds)

-- What a seat found at its hold of the out lane o, if it holds the lane after a step.
abbrev pub out_holding_after : ℕ → LaneStep → Option OutList → Option OutList
out_holding_after l (OutHeld i w x) o = if i == l then Some x else o
out_holding_after l (OutFreed i) o = if i == l then None else o
out_holding_after l (Given i from id place) o = if i == l then None else o
out_holding_after l _ o = o

-- What a seat found at its hold of the out lane o, if it holds the lane by its own steps.
abbrev pub out_holding : ℕ → List LaneStep → Option OutList
out_holding o [] = None
out_holding o (d ∷ ds) = out_holding_after o d (out_holding o ds)

-- The hand of the seat that pulls from a lane: empty, with the packet that it pulled, or with one
-- that it delivered and has not retired.
pub data Phase : Type 0 where
  idle : Phase
  has_pulled : ℕ → Phase
  gave : Phase

-- The hand of a seat for the lane l after a release of the lane i with a change.
abbrev pub freed_phase : ℕ → ℕ → Change → Phase → Phase
freed_phase l i (Pulled id) o = if i == l then has_pulled id else o
freed_phase l i _ o = o

-- The hand of a seat for the lane l after one of its own steps.
abbrev pub phase_after : ℕ → LaneStep → Phase → Phase
phase_after l (Freed i c) o = freed_phase l i c o
phase_after l (Given i from id place) o = if from == l then gave else o
phase_after l (Retired i w) o = if i == l then idle else o
phase_after l _ o = o

-- The hand of a seat for the lane l by its own steps.
abbrev pub phase : ℕ → List LaneStep → Phase
phase l [] = idle
phase l (d ∷ ds) = phase_after l d (phase l ds)

module _ (about : BoardSizes) where
  -- The middle lane l after an order.
  abbrev pub lane : ℕ → List (StepBy LaneStep) → LaneLists
  lane l [] = new_lane about.limit about.room about.start (has about.limited l)
  lane l (e ∷ es) = lane_after_step l e.step (lane l es)

  -- The out lane o after an order, with its room.
  abbrev pub out_content : ℕ → List (StepBy LaneStep) → OutList
  out_content o es = out_list (out o es) about.room

  -- The word of the middle lane l: twice its tail, which is not reduced modulo 2^32, plus the mark
  -- of its holder.
  abbrev pub lane_word : ℕ → List (StepBy LaneStep) → ℕ
  lane_word l es = 2 * (about.start + length (lane l es).accepted) + bit (holder l es)

  -- The word of the out lane o: twice its tail, which is not reduced modulo 2^32, plus the mark of
  -- its holder.
  abbrev pub out_word : ℕ → List (StepBy LaneStep) → ℕ
  out_word o es = 2 * (about.start + length (out o es)) + bit (out_holder o es)

  -- The word of the head of the middle lane l: the head, which is not reduced modulo 2^32.
  abbrev pub head_word : ℕ → List (StepBy LaneStep) → ℕ
  head_word l es = about.start + retired l es

  -- ---- the lawful orders

  -- A release of the lane l with this change is allowed to a seat p that has made these steps and
  -- found x at its hold: a put has room and the answer that the lane gives, and a pull is of the
  -- next packet that waits, into an empty hand.
  abbrev pub FitsChange : ℕ → ℕ → List LaneStep → LaneLists → Change → Type 0
  FitsChange l p ds x Nothing = Unit {0}
  FitsChange l p ds x (Offered id hash answer) =
      (id < about.room) × (put_count x < about.room) × (answer ≡ put_answer x hash)
  FitsChange l p ds x (Pulled id) =
      (puller about l ≡ p) × (next_waiting x ≡ Some id) × (phase l ds ≡ idle)

  -- The step of the seat p at a lane may follow these: a word that is read is the current word, a
  -- lane that is free is taken as it is, and a seat gives back what it holds.
  abbrev pub MayCome : ℕ → List (StepBy LaneStep) → LaneStep → Type 0
  MayCome p es (Held l w x) =
      (l < about.lanes) × (w ≡ lane_word l es) × (holder l es ≡ 0) × (x ≡ lane l es)
  MayCome p es (Missed l w) = (l < about.lanes) × (w ≡ lane_word l es) × (0 < holder l es)
  MayCome p es (Freed l c) =
      (l < about.lanes)
      × ((x : LaneLists) × (holding l (steps_of p es) ≡ Some x)
      × FitsChange l p (steps_of p es) x c)
  MayCome p es (OutHeld o w x) =
      (o < about.outs) × (w ≡ out_word o es) × (out_holder o es ≡ 0) × (x ≡ out_content o es)
  MayCome p es (OutMissed o w) = (o < about.outs) × (w ≡ out_word o es) × (0 < out_holder o es)
  MayCome p es (OutFreed o) =
      (o < about.outs) × ((x : OutList) × (out_holding o (steps_of p es) ≡ Some x))
  MayCome p es (Given o from id place) =
      (o < about.outs) × (from < about.lanes)
      × ((x : OutList) × (out_holding o (steps_of p es) ≡ Some x) × (length x.items < about.room)
      × (place ≡ length x.items + 1) × (puller about from ≡ p)
      × (phase from (steps_of p es) ≡ has_pulled id))
  MayCome p es (Retired l w) =
      (l < about.lanes) × (w ≡ head_word l es) × (puller about l ≡ p)
      × (phase l (steps_of p es) ≡ gave)

  -- Each step of an order at the lanes may follow those before it.
  abbrev pub AreLawful : List (StepBy LaneStep) → Type 0
  AreLawful [] = Unit {0}
  AreLawful (e ∷ es) = MayCome e.by es e.step × AreLawful es
