-- One order of all steps on a board: steps at lanes, steps at the gate, loads, and moves of a lane
-- out of its slot and into it.
use Rattle.std.specs.Prelude.{◌≡◌, ℕ, ◌+◌, ◌<◌, List, [], ◌∷◌, ◌==◌, Option, Some, None, map}
use Rattle.std.specs.Prelude.{if◌then◌else◌}
use Rattle.std.specs.List.{filter_map, range_with_len}
use Rattle.std.specs.Option.{option_map}
use Rattle.steer_base.specs.Lanes.{LaneLists}
use Rattle.steer_base.specs.declared.put.LaneDrop.{LaneDrop}
use Rattle.linearization.specs.Orders.{StepBy, step_by, steps_of}
use Rattle.hop_rule.specs.declared.sizes.BoardSizes.{BoardSizes}
use Rattle.hop_rule.specs.declared.step.Change.TheVariants.{Offered}
use Rattle.hop_rule.specs.declared.step.BoardStep.{BoardStep}
use Rattle.hop_rule.specs.declared.step.BoardStep.TheVariants.{Lane, Gate, Weighed, Counted}
use Rattle.hop_rule.specs.declared.step.BoardStep.TheVariants.{LaneOut, LaneIn, OutCounted}
use Rattle.hop_rule.specs.declared.step.LaneStep.{LaneStep}
use Rattle.hop_rule.specs.declared.step.LaneStep.TheVariants.{Held, Freed, OutHeld, OutFreed, Given}
use Rattle.hop_rule.specs.declared.step.GateStep.{GateStep}
use Rattle.hop_rule.specs.Lanes as lanes
use Rattle.hop_rule.specs.Gates as gates

-- ---- the two parts of an order and of a seat's own steps

-- The step at a lane that a board step is, if it is one.
abbrev pub lane_step_in : BoardStep → Option LaneStep
lane_step_in (Lane d) = Some d
lane_step_in _ = None

-- The step at the gate or a setting that a board step is, if it is one.
abbrev pub gate_in : BoardStep → Option GateStep
gate_in (Gate d) = Some d
gate_in _ = None

-- The steps at lanes in an order of all steps on a board.
abbrev pub lanes_of : List (StepBy BoardStep) → List (StepBy LaneStep)
lanes_of es = filter_map (λ e. option_map (step_by e.by) (lane_step_in e.step)) es

-- The steps at the gate and the settings in an order of all steps on a board.
abbrev pub gates_of : List (StepBy BoardStep) → List (StepBy GateStep)
gates_of es = filter_map (λ e. option_map (step_by e.by) (gate_in e.step)) es

-- The steps at lanes in a seat's own list.
abbrev pub lane_steps : List BoardStep → List LaneStep
lane_steps ds = filter_map lane_step_in ds

-- The steps at the gate and the settings in a seat's own list.
abbrev pub gate_steps : List BoardStep → List GateStep
gate_steps ds = filter_map gate_in ds

-- ---- slots

-- What is in a slot: its lane; nothing, since a seat has taken the slot; or nothing, with the slot
-- itself given back.
pub data SlotState : Type 0 where
  full : SlotState
  taken : SlotState
  empty : SlotState

module _ (about : BoardSizes) where
  -- The number of the slot of the out lane o: out lanes come after the middle lanes.
  abbrev pub out_slot : ℕ → ℕ
  out_slot o = about.lanes + o

  -- The state of the slot k after a step at a lane.
  abbrev pub state_after_lane : ℕ → LaneStep → SlotState → SlotState
  state_after_lane k (Held l w x) s = if l == k then taken else s
  state_after_lane k (Freed l c) s = if l == k then full else s
  state_after_lane k (OutHeld o w x) s = if out_slot o == k then taken else s
  state_after_lane k (OutFreed o) s = if out_slot o == k then full else s
  state_after_lane k (Given o from id place) s = if out_slot o == k then full else s
  state_after_lane k _ s = s

  -- The state of the slot k after a step.
  abbrev pub state_after : ℕ → BoardStep → SlotState → SlotState
  state_after k (Lane d) s = state_after_lane k d s
  state_after k (LaneOut i) s = if i == k then empty else s
  state_after k (LaneIn i) s = if i == k then taken else s
  state_after k _ s = s

  -- The state of the slot k after an order of steps.
  abbrev pub slot_state : ℕ → List (StepBy BoardStep) → SlotState
  slot_state k [] = full
  slot_state k (e ∷ es) = state_after k e.step (slot_state k es)

  -- The state of the slot k by a seat's own steps.
  abbrev pub own_state : ℕ → List BoardStep → SlotState
  own_state k [] = full
  own_state k (d ∷ ds) = state_after k d (own_state k ds)

  -- ---- the lawful orders

  -- Where the seat p is with respect to the gate: outside, inside or backing out.
  abbrev pub visit_of : ℕ → List (StepBy BoardStep) → gates.Visit
  visit_of p es = gates.visit (steps_of p (gates_of es))

  -- If the step is a put, its seat is inside the gate.
  abbrev pub IsInside : gates.Visit → LaneStep → Type 0
  IsInside v (Freed l (Offered id hash answer)) = v ≡ gates.inside
  IsInside v _ = Unit {0}

  -- If the step gives a lane back, the seat has taken the lane's slot and moved the lane in.
  abbrev pub HasSlot : List BoardStep → LaneStep → Type 0
  HasSlot ds (Freed l c) = own_state l ds ≡ taken
  HasSlot ds (OutFreed o) = own_state (out_slot o) ds ≡ taken
  HasSlot ds (Given o from id place) = own_state (out_slot o) ds ≡ taken
  HasSlot ds _ = Unit {0}

  -- The step of the seat p may follow these: it is allowed at its lane or its gate, a loaded word
  -- is the current word, and a lane is moved out of a slot that the seat has taken and into one
  -- that it has emptied.
  abbrev pub MayCome : ℕ → List (StepBy BoardStep) → BoardStep → Type 0
  MayCome p es (Lane d) =
      lanes.MayCome about p (lanes_of es) d × IsInside (visit_of p es) d
      × HasSlot (steps_of p es) d
  MayCome p es (Gate d) = gates.MayCome about p (gates_of es) d
  MayCome p es (Weighed l w) = (l < about.lanes) × (w ≡ lanes.head_word about l (lanes_of es))
  MayCome p es (Counted l w) = (l < about.lanes) × (w ≡ lanes.lane_word about l (lanes_of es))
  MayCome p es (OutCounted o w) = (o < about.outs) × (w ≡ lanes.out_word about o (lanes_of es))
  MayCome p es (LaneOut k) =
      (k < about.lanes + about.outs) × (own_state k (steps_of p es) ≡ taken)
  MayCome p es (LaneIn k) =
      (k < about.lanes + about.outs) × (own_state k (steps_of p es) ≡ empty)

  -- An order of steps on a board is lawful: each step may follow those before it, and is by one of
  -- the seats.
  abbrev pub IsLawful : List (StepBy BoardStep) → Type 0
  IsLawful [] = Unit {0}
  IsLawful (e ∷ es) = (e.by < about.seats) × MayCome e.by es e.step × IsLawful es

  -- ---- what an order leaves

  -- The middle lane l after a lawful order.
  abbrev pub lane_at : List (StepBy BoardStep) → ℕ → LaneLists
  lane_at es l = lanes.lane about l (lanes_of es)

  -- The packets that the middle lane l accepted, in order.
  abbrev pub accepted : List (StepBy BoardStep) → ℕ → List ℕ
  accepted es l = (lane_at es l).accepted

  -- The drops of the middle lane l, in order.
  abbrev pub drops_at : List (StepBy BoardStep) → ℕ → List LaneDrop
  drops_at es l = (lane_at es l).drops

  -- The drops of all middle lanes, by lane.
  abbrev pub drops : List (StepBy BoardStep) → List (List LaneDrop)
  drops es = map (λ l. drops_at es l) (range_with_len 0 about.lanes)

  -- How many packets of the middle lane l were retired.
  abbrev pub retired : List (StepBy BoardStep) → ℕ → ℕ
  retired es l = lanes.retired l (lanes_of es)

  -- The packets delivered to the out lane o, in order.
  abbrev pub out : List (StepBy BoardStep) → ℕ → List ℕ
  out es o = lanes.out o (lanes_of es)

  -- The value of each setting after an order.
  abbrev pub settings : List (StepBy BoardStep) → ℕ → ℕ
  settings es = gates.settings about (gates_of es)

-- ---- the two parts of a lawful order

-- The steps at lanes in a lawful order are lawful by themselves, and so are those at the gate.
abbrev pub PartsAreLawful : Type 0
PartsAreLawful =
    (about : BoardSizes) (order : List (StepBy BoardStep)) → IsLawful about order
    → lanes.AreLawful about (lanes_of order) × gates.AreLawful about (gates_of order)
