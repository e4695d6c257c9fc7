-- The rule of a board: its words and its slots are what one lawful order of steps leaves there.
use Rattle.std.specs.Prelude.{◌≡◌, ℕ, ◌+◌, ◌*◌, ◌/◌, ◌<◌, List, length, slice_index, Some, None}
use Rattle.std.specs.Prelude as prelude
use mathlib.Core.Option.{Option, none, some}
use lib.ListN.{get_elem?}
use Rattle.linearization.specs.Orders.{StepBy}
use Rattle.hop_rule.specs.declared.sizes.BoardSizes.{BoardSizes}
use Rattle.hop_rule.specs.declared.step.BoardStep.{BoardStep}
use Rattle.hop_rule.specs.declared.step.LaneStep.{LaneStep}
use Rattle.hop_rule.specs.declared.step.GateStep.{GateStep}
use Rattle.hop_rule.specs.declared.step.Slot.{Slot}
use Rattle.hop_rule.specs.declared.step.Slot.TheVariants as slot
use Rattle.hop_rule.specs.Lanes as lanes
use Rattle.hop_rule.specs.Gates as gates
use Rattle.hop_rule.specs.Boards.{lanes_of, gates_of, out_slot, IsLawful, SlotState, full, taken}
use Rattle.hop_rule.specs.Boards.{empty, slot_state}
use Rattle.board_api.specs.Calls.HeldLanes.{FitsLane}
use Rattle.board_api.specs.declared.held_lane.LaneId.{LaneId}
use Rattle.board_api.specs.declared.held_lane.LaneId.TheVariants as id
use Rattle.hop_board.specs.declared.places.TheConstants.{SLOTS_PER_LANE, WORDS_PER_LINE}
use Rattle.hop_board.specs.declared.places.Word.{Word}
use Rattle.hop_board.specs.declared.places.Word.TheVariants as kind

-- What a slot has: a lane, or nothing while a seat holds its lane.
abbrev pub InSlot : Type 0
InSlot = prelude.Option Slot

-- The number of the slot of the lane whose word is at this place.
abbrev pub slot_at : ℕ → ℕ
slot_at place = place / WORDS_PER_LINE

-- The place in the table of the slot of the lane whose word is at this place.
abbrev pub home_at : ℕ → ℕ
home_at place = SLOTS_PER_LANE * slot_at place

module _ (about : BoardSizes) where
  -- ---- the places of the words and the slots: lanes, out lanes, heads, the gate, settings

  -- The number of a lane's slot.
  abbrev pub slot_of : LaneId → ℕ
  slot_of (id.Middle l) = l
  slot_of (id.Out o) = out_slot about o

  -- The number of slots.
  abbrev pub slots : ℕ
  slots = about.lanes + about.outs

  -- The place of a lane's slot in the table.
  abbrev pub home_of : LaneId → ℕ
  home_of x = SLOTS_PER_LANE * slot_of x

  -- The number of slots of the table, with those between that no call uses.
  abbrev pub all_slots : ℕ
  all_slots = SLOTS_PER_LANE * slots

  -- The number of words that lie a cache line apart.
  abbrev pub lines : ℕ
  lines = about.lanes + about.outs + about.lanes + 1

  -- The place of a word in the table: those of lanes, heads and the gate lie a cache line apart,
  -- and behind them are the settings in a row.
  abbrev pub place : Word → ℕ
  place (kind.Lane x) = WORDS_PER_LINE * slot_of x
  place (kind.Head l) = WORDS_PER_LINE * (about.lanes + about.outs + l)
  place kind.Gate = WORDS_PER_LINE * (about.lanes + about.outs + about.lanes)
  place (kind.Setting i) = WORDS_PER_LINE * lines + i

  -- The number of words of the table, with those between that no call uses.
  abbrev pub width : ℕ
  width = WORDS_PER_LINE * lines + length about.settings

  -- The word is one of this board.
  abbrev pub IsWord : Word → Type 0
  IsWord (kind.Lane x) = FitsLane about x
  IsWord (kind.Head l) = l < about.lanes
  IsWord kind.Gate = Unit {0}
  IsWord (kind.Setting i) = i < length about.settings

  -- ---- what an order leaves

  -- The lane after an order, as the content of its slot.
  abbrev pub content : List (StepBy LaneStep) → LaneId → Slot
  content ls (id.Middle l) = slot.Middle (lanes.lane about l ls)
  content ls (id.Out o) = slot.Out (lanes.out_content about o ls)

  -- The word of a lane after an order.
  abbrev pub lane_value : List (StepBy LaneStep) → LaneId → ℕ
  lane_value ls (id.Middle l) = lanes.lane_word about l ls
  lane_value ls (id.Out o) = lanes.out_word about o ls

  -- A word of a board by the steps at lanes and those at the gate.
  abbrev pub value_by : List (StepBy LaneStep) → List (StepBy GateStep) → Word → ℕ
  value_by ls gs (kind.Lane x) = lane_value ls x
  value_by ls gs (kind.Head l) = lanes.head_word about l ls
  value_by ls gs kind.Gate = gates.gate_word gs
  value_by ls gs (kind.Setting i) = gates.settings about gs i

  -- A word of a board after an order.
  abbrev pub value : List (StepBy BoardStep) → Word → ℕ
  value es w = value_by (lanes_of es) (gates_of es) w

  -- What is at home in a slot with this state, if its lane is this.
  abbrev pub home_by : SlotState → Slot → Option InSlot
  home_by full x = some (Some x)
  home_by empty x = some None
  home_by taken x = none

  -- What is at home in the slot of a lane after an order.
  abbrev pub home_after : List (StepBy BoardStep) → LaneId → Option InSlot
  home_after es x = home_by (slot_state about (slot_of x) es) (content (lanes_of es) x)

  -- ---- the rule

  -- Each word of the table is what the order leaves there.
  abbrev pub WordsAre : List (StepBy BoardStep) → List ℕ → Type 0
  WordsAre order words = (w : Word) → IsWord w → slice_index words (place w) ≡ value order w

  -- Each slot of the table is what the order leaves there.
  abbrev pub HomesAre : List (StepBy BoardStep) → List (Option InSlot) → Type 0
  HomesAre order homes =
      (x : LaneId) → FitsLane about x → get_elem? homes (home_of x) ≡ some (home_after order x)

  -- The rule of a board: the order is lawful, and each word and each slot is what it leaves there.
  pub record HasBoard (order : List (StepBy BoardStep)) (words : List ℕ)
      (homes : List (Option InSlot)) : Type 0 where
    pub lawful : IsLawful about order
    pub counted : length words ≡ width
    pub words_are : WordsAre order words
    pub homes_are : HomesAre order homes
