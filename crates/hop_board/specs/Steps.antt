-- What a step at the words of a board requires, and what it leaves.
use Rattle.std.specs.Prelude.{◌≡◌, ◌≢◌, ℕ, ◌+◌, ◌-◌, ◌%◌, ◌^◌, ◌<◌, List, ◌∷◌, Bool, true, false}
use Rattle.std.specs.Prelude.{Some}
use mathlib.Core.Option.{some}
use Rattle.linearization.specs.Orders.{StepBy, step_by, steps_of}
use Rattle.linearization.specs.Seats.{SeatView}
use Rattle.hop_rule.specs.declared.sizes.BoardSizes.{BoardSizes}
use Rattle.hop_rule.specs.declared.step.BoardStep.{BoardStep}
use Rattle.hop_rule.specs.declared.step.BoardStep.TheVariants.{LaneIn}
use Rattle.hop_rule.specs.declared.step.Slot.{Slot}
use Rattle.hop_rule.specs.Boards.{IsLawful, MayCome}
use Rattle.hop_rule.specs.Sizes.{FitSizes}
use Rattle.board_api.specs.Calls.HeldLanes.{FitsLane}
use Rattle.board_api.specs.declared.held_lane.LaneId.{LaneId}
use Rattle.hop_board.specs.declared.places.Word.{Word}
use Rattle.hop_board.specs.declared.places.Word.TheVariants as kind
use Rattle.hop_board.specs.Tables.{slot_of, value, home_after}

-- The word of a lane after a release: one more if its tail rises, otherwise one less.
abbrev pub released_word : Bool → ℕ → ℕ
released_word true n = (n + 1) % 2 ^ 64
released_word false n = (n + (2 ^ 64 - 1)) % 2 ^ 64

module _ (about : BoardSizes) where
  -- After these steps the seat p may make the step d, which leaves m in the word w, and all other
  -- words and all slots as they were.
  pub record IsStepAt (order : List (StepBy BoardStep)) (p : ℕ) (w : Word) (m : ℕ) (d : BoardStep)
      : Type 0 where
    pub may : MayCome about p order d
    pub here : m ≡ value about (step_by p d ∷ order) w
    pub others : (v : Word) → v ≢ w
        → value about (step_by p d ∷ order) v ≡ value about order v
    pub homes : (x : LaneId)
        → home_after about (step_by p d ∷ order) x ≡ home_after about order x

  -- Whatever a seat with these steps finds in the word w, it may make the step that depends on it,
  -- which leaves f of it there; and what the step shows of the word holds.
  abbrev pub MayAct : SeatView BoardStep → Word → (ℕ → ℕ) → (ℕ → BoardStep) → (ℕ → Type 0)
      → Type 0
  MayAct seat w f makes says =
      FitSizes about → (order : List (StepBy BoardStep)) → seat.number < about.seats
      → seat.steps ≡ steps_of seat.number order → IsLawful about order
      → IsStepAt order seat.number w (f (value about order w)) (makes (value about order w))
      × says (value about order w)

  -- After these steps the seat p, which has taken the slot of the lane x, may give it back with
  -- this content by the step d, which leaves m in the word of the lane and all else as it was.
  pub record IsRelease (order : List (StepBy BoardStep)) (p : ℕ) (x : LaneId) (m : ℕ)
      (given : Slot) (d : BoardStep) : Type 0 where
    pub may : MayCome about p order d
    pub here : m ≡ value about (step_by p d ∷ order) (kind.Lane x)
    pub others : (v : Word) → v ≢ kind.Lane x
        → value about (step_by p d ∷ order) v ≡ value about order v
    pub home : home_after about (step_by p d ∷ order) x ≡ some (Some given)
    pub homes : (y : LaneId) → FitsLane about y → y ≢ x
        → home_after about (step_by p d ∷ order) y ≡ home_after about order y

  -- A seat with these steps that takes the emptied slot of the lane x again may give it back with
  -- this content by the step d; and what the step shows holds.
  abbrev pub MayGive : SeatView BoardStep → LaneId → Bool → Slot → BoardStep → Type 0 → Type 0
  MayGive seat x rises given d says =
      FitSizes about → (order : List (StepBy BoardStep)) → seat.number < about.seats
      → LaneIn (slot_of about x) ∷ seat.steps ≡ steps_of seat.number order → IsLawful about order
      → value about order (kind.Lane x) < 2 ^ 64
      → IsRelease order seat.number x (released_word rises (value about order (kind.Lane x))) given
      d
      × says
