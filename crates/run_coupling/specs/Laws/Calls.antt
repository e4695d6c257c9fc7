-- The steps that the calls of a try add have the forms that the coupling invariants of tries
-- require.
use Rattle.std.specs.Prelude.{◌≡◌, ℕ, List, [], ◌∷◌, ◌++◌}
use Rattle.steer_base.specs.declared.command.Command.{Command}
use Rattle.hop_rule.specs.declared.sizes.BoardSizes.{BoardSizes}
use Rattle.hop_rule.specs.declared.step.BoardStep.{BoardStep}
use Rattle.hop_rule.specs.declared.step.BoardStep.TheVariants.{Counted, Gate, Weighed}
use Rattle.hop_rule.specs.declared.step.GateStep.TheVariants.{NotShut, Opened, Set, Shut}
use Rattle.board_api.specs.Calls.Results.{Looked, looking}
use Rattle.hop_delivery.specs.Orders.Commands.{SettingChange}
use Rattle.run_coupling.specs.Coupling.EmptiedLanes.{FindsAllEmpty, NoSets}
use Rattle.run_coupling.specs.Coupling.Tries.{sets_and_openings}

-- A done try makes its one setting and opens the gate.
abbrev pub DoneCallsSet : Type 0
DoneCallsSet =
    (about : BoardSizes) (homes : List ℕ) (cpus txs : ℕ) (c : Command) (m : SettingChange)
    (steps : List BoardStep) → FindsAllEmpty about homes cpus txs c m steps
    → sets_and_openings steps ≡ Opened ∷ Set m.word m.value ∷ []

-- The steps of a try that closed the gate, looked at lanes, of which only the last was not empty,
-- and opened the gate.
abbrev pub busy_steps : List Looked → Looked → ℕ → List BoardStep
busy_steps looked last word =
    Gate Opened ∷ looking (looked ++ last ∷ []) (Gate (Shut word) ∷ [])

-- These steps set nothing, open the gate once, and have the two loads of the last lane.
pub record LooksAtLast (last : Looked) (steps : List BoardStep) : Type 0 where
  pub opens : sets_and_openings steps ≡ Opened ∷ []
  pub none : NoSets steps
  pub newer : List BoardStep
  pub between : List BoardStep
  pub older : List BoardStep
  pub are : steps
      ≡ newer ++ Counted last.lane last.tail ∷ (between ++ Weighed last.lane last.head ∷ older)

-- A try that found a lane busy only looks.
abbrev pub BusyCallsLook : Type 0
BusyCallsLook =
    (looked : List Looked) (last : Looked) (word : ℕ)
    → LooksAtLast last (busy_steps looked last word)

-- A try whose gate was not closed, since visits were open, sets nothing and opens nothing.
abbrev pub InsideCallsNone : Type 0
InsideCallsNone =
    (word : ℕ)
    → (sets_and_openings (Gate (NotShut word) ∷ []) ≡ []) × NoSets (Gate (NotShut word) ∷ [])
