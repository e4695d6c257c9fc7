-- The steps that calls make, by the word that they find.
use Rattle.std.specs.Prelude.{◌≡◌, ◌≢◌, ℕ, ◌+◌, ◌<◌, ◌≤◌, ◌==◌, true, false, List, ◌∷◌}
use Rattle.std.specs.Prelude.{if◌then◌else◌}
use Rattle.hop_rule.specs.declared.sizes.BoardSizes.{BoardSizes}
use Rattle.hop_rule.specs.declared.step.BoardStep.{BoardStep}
use Rattle.hop_rule.specs.declared.step.BoardStep.TheVariants.{Gate, Weighed}
use Rattle.hop_rule.specs.declared.step.BoardStep.TheVariants.{LaneOut}
use Rattle.hop_rule.specs.declared.step.GateStep.TheVariants.{Entered, Turned, Left, Read}
use Rattle.hop_rule.specs.declared.step.GateStep.TheVariants.{Shut, NotShut}
use Rattle.hop_rule.specs.declared.step.Slot.{Slot}
use Rattle.linearization.specs.Seats.{SeatView}
use Rattle.board_api.specs.Calls.Rights.{IsCloser, MayRead}
use Rattle.board_api.specs.StepWords.{is_odd, is_marked, low_half}
use Rattle.board_api.specs.Calls.Results.{CountedAt, MissedAt}
use Rattle.board_api.specs.declared.held_lane.LaneId.{LaneId}
use Rattle.hop_board.specs.declared.places.Word.{Word}
use Rattle.hop_board.specs.declared.places.Word.TheVariants as kind
use Rattle.hop_board.specs.Plays.{HeldAt}
use Rattle.hop_board.specs.Tables.{slot_of}

-- The step of a seat that adds a visit to the gate: a visit begins, or the visitor finds the closed
-- mark.
abbrev pub entering : ℕ → BoardStep
entering word = if is_marked word then Gate (Turned word) else Gate (Entered word)

-- If the seat with this number is the closer, the gate that has this word is open.
abbrev pub FindsOpen : BoardSizes → ℕ → ℕ → Type 0
FindsOpen about number word = IsCloser about number → is_marked word ≡ false

-- The step of a close that expected this word of an empty gate.
abbrev pub closing : ℕ → ℕ → BoardStep
closing empty word = if word == empty then Gate (Shut word) else Gate (NotShut word)

-- If the word was not that of an empty gate, at least one and at most each other seat is on a
-- visit.
abbrev pub IsBusy : BoardSizes → ℕ → ℕ → Type 0
IsBusy about empty word =
    word ≢ empty → (0 < low_half word) × (low_half word + 1 ≤ about.seats)

-- The step of a load.
abbrev pub loaded : Word → ℕ → BoardStep
loaded (kind.Lane x) word = CountedAt x word
loaded (kind.Head l) word = Weighed l word
loaded kind.Gate word = Gate Left
loaded (kind.Setting i) word = Gate (Read i word)

-- A seat with these steps may load the word: that of a lane or of a head, or a setting if it may
-- read settings.
abbrev pub MayLoad : List BoardStep → Word → Type 0
MayLoad steps (kind.Lane x) = Unit {0}
MayLoad steps (kind.Head l) = Unit {0}
MayLoad steps kind.Gate = ⊥
MayLoad steps (kind.Setting i) = MayRead steps

-- The lane was taken with an even word and moved out of its slot.
pub record TookSlot (about : BoardSizes) (x : LaneId) (old new : SeatView BoardStep) (found : Slot)
    : Type 0 where
  pub word : ℕ
  pub held : BoardStep
  pub free : is_odd word ≡ false
  pub is_hold : HeldAt x word found held
  pub step : new ≡ record old { steps = LaneOut (slot_of about x) ∷ held ∷ old.steps }

-- The lane was not taken, since its word was odd.
pub record MissedSlot (x : LaneId) (old new : SeatView BoardStep) (word : ℕ) : Type 0 where
  pub odd : is_odd word ≡ true
  pub step : new ≡ record old { steps = MissedAt x word ∷ old.steps }
