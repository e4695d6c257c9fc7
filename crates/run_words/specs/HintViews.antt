-- What contracts see of a seat at the words that threads share.
use Rattle.std.specs.Prelude.{◌∷◌}
use Rattle.linearization.specs.Seats.{SeatView}
use Rattle.hint_words.specs.declared.step.HintStep.{HintStep}

-- what contracts see of a seat at the hint words
abbrev pub HintView : Type 0
HintView = SeatView HintStep

-- the seat after this step
abbrev pub after_step : HintStep → HintView → HintView
after_step d s = record s { steps = d ∷ s.steps }
