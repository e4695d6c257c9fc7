-- How often a worker looks whether all packets have arrived.
use Rattle.std.specs.Prelude.{◌≡◌, ◌≤◌, ℕ, ◌+◌, ◌==◌, Bool, false, List, ◌∷◌}
use Rattle.std.specs.List.{count_by}
use Rattle.hint_words.specs.declared.step.HintStep.{HintStep}
use Rattle.hint_words.specs.declared.step.HintStep.TheVariants.{ClearIf, Load, Store}
use Rattle.run_words.specs.declared.hint_word.TheConstants.{DONE_WORD}
use Rattle.run_words.specs.declared.seats.Seats.{Seats}
use Rattle.run_workers.specs.declared.work.TheConstants.{MAX_IDLE_TURNS}

-- whether a step loads the word that says that all packets have arrived
abbrev pub is_look : HintStep → Bool
is_look (Load word value) = word == DONE_WORD
is_look (Store word value) = false
is_look (ClearIf word value done) = false

-- how many of these steps load the word that says that all packets have arrived
abbrev pub look_count : List HintStep → ℕ
look_count steps = count_by is_look steps

-- The seats made one step, a load of the word that says that all packets have arrived.
abbrev pub Looks : Seats → Seats → Type 0
Looks old new =
    (value : ℕ) × (new ≡ record old {
      hint = record old.hint { steps = Load DONE_WORD value ∷ old.hint.steps };
    })

-- The seats have looked `MAX_IDLE_TURNS` times more, or more often, whether all packets arrived.
abbrev pub LookedLong : Seats → Seats → Type 0
LookedLong old new = look_count old.hint.steps + MAX_IDLE_TURNS ≤ look_count new.hint.steps
