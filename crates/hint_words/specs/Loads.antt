-- The stores that loaded values come from.
use Rattle.std.specs.Prelude.{◌≢◌, ℕ, List, All}
use Rattle.std.specs.List.{Contains}
use Rattle.linearization.specs.Seats.{SeatView}
use Rattle.hint_words.specs.declared.step.HintStep.{HintStep}
use Rattle.hint_words.specs.declared.step.HintStep.TheVariants.{Load, Store, ClearIf}

-- One of the seats has a store of n at the word i.
pub record IsStoredBy (seats : List (SeatView HintStep)) (i n : ℕ) : Type 0 where
  pub seat : SeatView HintStep
  pub among : Contains seats seat
  pub stores : Contains seat.steps (Store i n)

-- If the step is a load of a value other than 0, one of the seats has a store of that value at that
-- word.
abbrev pub ComesFrom : List (SeatView HintStep) → HintStep → Type 0
ComesFrom seats (Load i n) = n ≢ 0 → IsStoredBy seats i n
ComesFrom seats (Store i n) = Unit {0}
ComesFrom seats (ClearIf i n done) = Unit {0}

-- Each load of these seats of a value other than 0 has the value of a store at that word by one of
-- them.
abbrev pub LoadsAreStored : List (SeatView HintStep) → Type 0
LoadsAreStored seats = All (λ (s : SeatView HintStep). All (ComesFrom seats) s.steps) seats
