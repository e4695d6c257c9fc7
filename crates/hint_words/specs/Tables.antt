-- The rule of the words.
use Rattle.std.specs.Prelude.{◌≡◌, ℕ, ◌+◌, ◌<◌, ◌==◌, List, length, slice_index}
use mathlib.Core.Option.{Option}
use Rattle.atomic_table.specs.Table.{Step}
use Rattle.linearization.specs.Orders.{StepBy}
use Rattle.hint_words.specs.declared.step.HintStep.{HintStep}
use Rattle.hint_words.specs.declared.step.HintStep.TheVariants.{Load, Store, ClearIf}
use Rattle.hint_words.specs.declared.sizes.Sizes.{Sizes}
use Rattle.hint_words.specs.Steps.{word_after, IsLawful}

-- The order is lawful and each word is what it leaves there; one further word is unused, so that no
-- table is without words.
pub record HasLastWrites (about : Sizes) (order : List (StepBy HintStep)) (words : List ℕ)
    (homes : List (Option (Unit {0}))) : Type 0 where
  pub lawful : IsLawful order
  pub counted : length words ≡ about.words + 1
  pub each : (i : ℕ) → i < about.words → slice_index words i ≡ word_after i order

-- The step of a load that found n.
abbrev pub load_of : Step (Unit {0}) → ℕ → HintStep
load_of st n = Load st.word n

-- The step of a store.
abbrev pub store_of : Step (Unit {0}) → ℕ → HintStep
store_of st n = Store st.word st.first

-- The step of a clear that found n.
abbrev pub clear_of : Step (Unit {0}) → ℕ → HintStep
clear_of st n = ClearIf st.word st.first (n == st.first)
