-- Steps on words, and the values that an order of steps leaves. Orders have the newest step first.
use Rattle.std.specs.Prelude.{◌≡◌, ℕ, ◌==◌, ◌&&◌, List, [], ◌∷◌, ◌++◌, if◌then◌else◌, All}
use Rattle.std.specs.Prelude.{Option, None, Some}
use Rattle.std.specs.Option.{unwrap_or}
use Rattle.linearization.specs.Orders.{StepBy}
use Rattle.hint_words.specs.declared.step.HintStep.{HintStep}
use Rattle.hint_words.specs.declared.step.HintStep.TheVariants.{Load, Store, ClearIf}

-- The value that the step writes at the word i, if it writes there.
abbrev pub value_written : ℕ → HintStep → Option ℕ
value_written i (Load j n) = None
value_written i (Store j n) = if j == i then Some n else None
value_written i (ClearIf j n done) = if (j == i) && done then Some 0 else None

-- The word i after these steps: the value written there last, or 0 if none was.
abbrev pub word_after : ℕ → List (StepBy HintStep) → ℕ
word_after i [] = 0
word_after i (e ∷ es) = unwrap_or (value_written i e.step) (word_after i es)

-- The step returns what its word is after the earlier steps.
abbrev pub AnswersAfter : List (StepBy HintStep) → HintStep → Type 0
AnswersAfter es (Load i n) = n ≡ word_after i es
AnswersAfter es (Store i n) = Unit {0}
AnswersAfter es (ClearIf i n done) = done ≡ (word_after i es == n)

-- Each step returns what its word is after the steps before it.
abbrev pub IsLawful : List (StepBy HintStep) → Type 0
IsLawful [] = Unit {0}
IsLawful (e ∷ es) = AnswersAfter es e.step × IsLawful es

-- None of these steps writes at the word i.
abbrev pub NoneWrites : ℕ → List (StepBy HintStep) → Type 0
NoneWrites i order = All (λ (e : StepBy HintStep). value_written i e.step ≡ None) order

-- One of the steps writes n at the word i, and no newer one writes there.
pub record IsWrittenLast (i : ℕ) (order : List (StepBy HintStep)) (n : ℕ) : Type 0 where
  pub newer : List (StepBy HintStep)
  pub last : StepBy HintStep
  pub older : List (StepBy HintStep)
  pub cut : order ≡ newer ++ last ∷ older
  pub none_newer : NoneWrites i newer
  pub writes : value_written i last.step ≡ Some n
