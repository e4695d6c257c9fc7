-- Steps that take or give a slot: the step that is added, and the slots that the seat carries
-- before and after.
use Rattle.std.specs.Prelude.{◌≡◌, ℕ, true, false, List, [], ◌∷◌, None, Some}
use Rattle.atomic_table.specs.Table.{Step, rest}
use Rattle.hop_rule.specs.declared.step.BoardStep.{BoardStep}
use Rattle.hop_rule.specs.declared.step.BoardStep.TheVariants.{Lane, LaneOut, LaneIn}
use Rattle.hop_rule.specs.declared.step.LaneStep.TheVariants.{Held, OutHeld}
use Rattle.hop_rule.specs.declared.step.Slot.{Slot}
use Rattle.hop_rule.specs.declared.step.Slot.TheVariants as slot
use Rattle.board_api.specs.StepWords.{is_odd}
use Rattle.board_api.specs.Calls.Results.{MissedAt}
use Rattle.board_api.specs.declared.held_lane.LaneId.{LaneId}
use Rattle.board_api.specs.declared.held_lane.LaneId.TheVariants as id
use Rattle.hop_board.specs.Tables.{InSlot, home_at, slot_at}

-- The step by which the lane x was taken, with the word and the content that were found.
abbrev pub HeldAt : LaneId → ℕ → Slot → BoardStep → Type 0
HeldAt (id.Middle l) w (slot.Middle y) d = d ≡ Lane (Held l w y)
HeldAt (id.Out o) w (slot.Out y) d = d ≡ Lane (OutHeld o w y)
HeldAt (id.Middle l) w (slot.Out y) d = ⊥
HeldAt (id.Out o) w (slot.Middle y) d = ⊥

-- The slots that a seat carries, each with its content.
abbrev pub Carried : Type 0
Carried = List (ℕ × InSlot)

-- The lane x was taken with its slot, since its word was even.
pub record Takes (x : LaneId) (st : Step InSlot) (n : ℕ) (d : BoardStep) (after : Carried)
    : Type 0 where
  pub found : Slot
  pub held : HeldAt x n found d
  pub carries : after ≡ (home_at st.word, Some found) ∷ []

-- A hold takes the lane with its slot if the word was even, and nothing if it was odd.
abbrev pub HoldsThen : LaneId → Step InSlot → ℕ → BoardStep → Carried → Carried → Type 0
HoldsThen x st n d before after =
    (is_odd n ≡ false → Takes x st n d after)
    × (is_odd n ≡ true → (d ≡ MissedAt x n) × (after ≡ []))

-- The emptied slot was given back.
abbrev pub EmptiesThen : Step InSlot → ℕ → BoardStep → Carried → Carried → Type 0
EmptiesThen st n d before after = (d ≡ LaneOut (slot_at st.word)) × (after ≡ rest before)

-- The emptied slot was taken again.
abbrev pub FillsThen : Step InSlot → ℕ → BoardStep → Carried → Carried → Type 0
FillsThen st n d before after =
    (d ≡ LaneIn (slot_at st.word)) × (after ≡ (home_at st.word, None) ∷ before)

-- The slot was given back with its lane, by this step.
abbrev pub GivesThen : BoardStep → Type 0 → Step InSlot → ℕ → BoardStep → Carried → Carried
    → Type 0
GivesThen given says st n d before after = (d ≡ given) × (after ≡ rest before) × says
