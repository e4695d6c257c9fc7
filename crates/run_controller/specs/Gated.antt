-- One try of a command behind a gate, and the coupling invariants that it keeps.
use Rattle.std.specs.Prelude.{◌≡◌, ◌⊎◌, ℕ, ◌-◌, ◌<◌, List, [], ◌∷◌, ◌++◌}
use Rattle.std.specs.Prelude.{None, Some, length}
use Rattle.steer_base.specs.Sets.{has}
use Rattle.steer_base.specs.declared.command.Answer.{Answer}
use Rattle.steer_base.specs.declared.command.Answer.TheVariants as says
use Rattle.steer_base.specs.declared.command.Busy.TheVariants as busy
use Rattle.steer_base.specs.declared.command.Command.{Command}
use Rattle.steer_base.specs.declared.cpu_mask.CpuMask.{CpuMask}
use Rattle.history.specs.declared.lane_list.LaneList.{LaneList}
use Rattle.hop_rule.specs.declared.sizes.BoardSizes.{BoardSizes}
use Rattle.hop_rule.specs.declared.step.BoardStep.{BoardStep}
use Rattle.board_api.specs.Seats.{BoardSeatView}
use Rattle.hop_delivery.specs.Orders.Commands.{SettingChange}
use Rattle.steer_model.specs.Good.Inputs.{Input, setup_in}
use Rattle.steer_model.specs.Steps.Commands.{affects}
use Rattle.run_controller.specs.Gates.{ClosesEmpty, SetsAndOpens}
use Rattle.run_coupling.specs.Coupling.Answers.{FindsOneBusy, FindsVisits}
use Rattle.run_coupling.specs.Coupling.EmptiedLanes.{FindsAllEmpty, NoSets}
use Rattle.run_coupling.specs.Coupling.Tries.{SetsByAnswer, sets_and_openings}

-- By the answer: the gate was closed, the lanes found empty, the setting made and the gate opened;
-- or nothing was set, and this was busy.
abbrev pub IsGated : BoardSizes → CpuMask → ℕ → ℕ → BoardSeatView → BoardSeatView → Answer → Type 0
IsGated about lanes number value old new says.Done =
    (mid : BoardSeatView) × ClosesEmpty about lanes old mid None
    × SetsAndOpens number value mid new
IsGated about lanes number value old new (says.Busy why) =
    ClosesEmpty about lanes old new (Some why)
IsGated about lanes number value old new _ = ⊥

-- The set has just the lanes of a board that the command affects.
abbrev pub HasAffected : Input → BoardSizes → Command → CpuMask → Type 0
HasAffected i about c lanes =
    (l : ℕ) → l < about.lanes → has lanes l ≡ affects (setup_in i) c l

-- What a try of a command with this one setting keeps of the coupling invariants: it sets and opens
-- as its answer says; if it was done the lanes were found empty, and else it made no setting; if it
-- was busy it is one close that found as many visits as it says, of seats other than the closer's,
-- or it found the lane that it names not empty.
pub record KeepsTry (i : Input) (about : BoardSizes) (lanes : List LaneList) (c : Command)
    (m : SettingChange) (answer : Answer) (steps : List BoardStep) : Type 0 where
  pub sets : (words : ℕ → ℕ) (changes : (ℕ → ℕ) → Command → List SettingChange)
      → changes words c ≡ m ∷ []
      → SetsByAnswer words changes (record { command = c; answer = answer })
      (sets_and_openings steps)
  pub finds : NoSets steps
      ⊎ FindsAllEmpty about (setup_in i).homes (setup_in i).cpus (setup_in i).txs c m steps
  pub inside : (n : ℕ) → answer ≡ says.Busy (busy.Inside n) → FindsVisits (about.seats - 1) steps n
  pub busy : (lane head tail : ℕ) → answer ≡ says.Busy (busy.NotEmpty lane head tail)
      → FindsOneBusy i lanes steps c lane head tail

-- A gated try keeps its coupling invariants, if it looked at the lanes that its command affects.
abbrev pub GatedTriesKeep : Type 0
GatedTriesKeep =
    (i : Input) (about : BoardSizes) (left : List LaneList) (lanes : CpuMask) (c : Command)
    (m : SettingChange) (answer : Answer) (old new : BoardSeatView)
    → length left ≡ about.lanes → HasAffected i about c lanes
    → IsGated about lanes m.word m.value old new answer
    → (steps : List BoardStep) × (new.steps ≡ steps ++ old.steps)
    × KeepsTry i about left c m answer steps
