-- The controller found lanes empty before it made a setting.
use Rattle.std.specs.Prelude.{◌≡◌, ◌⊎◌, ℕ, ◌<◌, Bool, true, false, List, [], ◌∷◌, map, All}
use Rattle.steer_base.specs.Commands.{is_affected}
use Rattle.steer_base.specs.Sets.{has}
use Rattle.steer_base.specs.declared.command.Command.{Command}
use Rattle.steer_base.specs.declared.cpu_mask.CpuMask.{CpuMask}
use Rattle.hop_rule.specs.declared.sizes.BoardSizes.{BoardSizes}
use Rattle.hop_rule.specs.declared.step.BoardStep.{BoardStep}
use Rattle.hop_rule.specs.declared.step.BoardStep.TheVariants.{Gate}
use Rattle.hop_rule.specs.declared.step.GateStep.TheVariants.{Opened, Set, Shut}
use Rattle.board_api.specs.Calls.Results.{IsEmpty, Looked, lanes_in, looking}
use Rattle.hop_delivery.specs.Orders.Commands.{SettingChange, received_sets}
use Rattle.hop_delivery.specs.Orders.ReceiveSettings.{Queues}
use Rattle.run_coupling.specs.Coupling.Tries.{Try, words_after}

-- Whether a step makes a setting.
abbrev pub is_set : BoardStep → Bool
is_set (Gate (Set word value)) = true
is_set _ = false

-- None of these steps makes a setting.
abbrev pub NoSets : List BoardStep → Type 0
NoSets [] = Unit {0}
NoSets (d ∷ ds) = (is_set d ≡ false) × NoSets ds

-- The steps of a done command with one setting: the gate was closed, each lane of a set was found
-- empty, the setting was made, and the gate was opened. The set has all lanes that the command
-- affects.
pub record FindsAllEmpty (about : BoardSizes) (homes : List ℕ) (cpus txs : ℕ) (c : Command)
    (m : SettingChange) (steps : List BoardStep) : Type 0 where
  pub mask : CpuMask
  pub looked : List Looked
  pub word : ℕ
  pub lanes : map (λ (x : Looked). x.lane) looked ≡ lanes_in about mask
  pub empty : All IsEmpty looked
  pub wanted : (l : ℕ) → l < about.lanes → is_affected c homes cpus txs l ≡ true → has mask l ≡ true
  pub are : steps
      ≡ Gate Opened ∷ Gate (Set m.word m.value) ∷ looking looked (Gate (Shut word) ∷ [])

module _ (about : BoardSizes) (q : Queues) (cpus txs : ℕ) (at : Try → List BoardStep) where
  -- The try made no setting at the receive board, or it made one and had found the lanes empty.
  abbrev pub FindsLanes : Try → List Try → Type 0
  FindsLanes t ts =
      NoSets (at t)
      ⊎ ((m : SettingChange)
      × (received_sets q (words_after about (received_sets q) at ts) t.given.command ≡ m ∷ [])
      × FindsAllEmpty about q.homes cpus txs t.given.command m (at t))

  -- Each try found the lanes empty.
  abbrev pub AllFindLanes : List Try → Type 0
  AllFindLanes [] = Unit {0}
  AllFindLanes (t ∷ ts) = FindsLanes t ts × AllFindLanes ts
