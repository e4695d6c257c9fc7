-- How the words end, and what the seats' own lists tell then.
use Rattle.std.specs.Prelude.{◌≡◌, ◌≢◌, ℕ, ◌<◌, ◌==◌, List, [], ◌∷◌, Option, None, Some, length}
use Rattle.std.specs.Prelude.{if◌then◌else◌}
use Rattle.std.specs.List.{Contains}
use Rattle.linearization.specs.Orders.{StepBy}
use Rattle.linearization.specs.Seats.{SeatView, ArePartsOf}
use Rattle.hint_words.specs.declared.step.HintStep.{HintStep}
use Rattle.hint_words.specs.declared.step.HintStep.TheVariants.{Load, Store}
use Rattle.hint_words.specs.Steps.{IsLawful, value_written}

-- The words have ended: one lawful order of steps has the seats' own lists as its parts, and no
-- other steps.
pub record HaveEnded (seats : List (SeatView HintStep)) : Type 0 where
  pub order : List (StepBy HintStep)
  pub lawful : IsLawful order
  pub parts : ArePartsOf order seats

-- The step of a seat's own list that has k steps before it, if there is one.
abbrev pub step_at : List HintStep → ℕ → Option HintStep
step_at [] k = None
step_at (d ∷ ds) k = if length ds == k then Some d else step_at ds k

-- One of these steps writes n at the word i.
pub record WritesAt (steps : List HintStep) (i n : ℕ) : Type 0 where
  pub step : HintStep
  pub does : Contains steps step
  pub writes : value_written i step ≡ Some n

-- One of the seats has written n at the word i.
pub record IsWrittenBy (seats : List (SeatView HintStep)) (i n : ℕ) : Type 0 where
  pub seat : SeatView HintStep
  pub among : Contains seats seat
  pub writes : WritesAt seat.steps i n

-- If a seat loads n from a word where an earlier load of its own found another value, one of the
-- seats wrote n there.
abbrev pub ChangesAreWritten : Type 0
ChangesAreWritten =
    (seats : List (SeatView HintStep)) (seat : SeatView HintStep) (i first second m n : ℕ)
    → HaveEnded seats → Contains seats seat → first < second
    → step_at seat.steps first ≡ Some (Load i m) → step_at seat.steps second ≡ Some (Load i n)
    → m ≢ n → IsWrittenBy seats i n

-- ---- moments

-- Before a moment one of the seats had stored n at the word i, by one of its own steps.
pub record IsStoredBefore (seats : List (SeatView HintStep)) (at : (seat step : ℕ) → ℕ)
    (i n moment : ℕ) : Type 0 where
  pub seat : SeatView HintStep
  pub among : Contains seats seat
  pub step : ℕ
  pub stores : step_at seat.steps step ≡ Some (Store i n)
  pub before : at seat.number step < moment

-- The seats' own steps have moments in one order, by the numbers of seats and steps: those of a
-- seat are in the order of its own list, and what a load found other than 0 was stored before it.
pub record HaveMoments (seats : List (SeatView HintStep)) : Type 0 where
  pub at : (seat step : ℕ) → ℕ
  pub in_turn : (seat : SeatView HintStep) (j k : ℕ) → Contains seats seat → j < k
      → k < length seat.steps → at seat.number j < at seat.number k
  pub found : (seat : SeatView HintStep) (k i n : ℕ) → Contains seats seat
      → step_at seat.steps k ≡ Some (Load i n) → n ≢ 0
      → IsStoredBefore seats at i n (at seat.number k)

-- The steps of words that have ended have moments.
abbrev pub WordsHaveMoments : Type 0
WordsHaveMoments = (seats : List (SeatView HintStep)) → HaveEnded seats → HaveMoments seats
