-- How the controller answers its commands.
use Rattle.std.specs.Prelude.{◌≡◌, ◌≢◌, ◌⊎◌, ℕ, ◌<◌, ◌≤◌, true, List, [], ◌∷◌, Option, Some, None}
use Rattle.std.specs.Prelude.{All, length}
use Rattle.steer_base.specs.declared.command.Answer.TheVariants as says
use Rattle.steer_base.specs.declared.command.Busy.TheVariants as busy
use Rattle.steer_base.specs.declared.command.Command.{Command}
use Rattle.steer_base.specs.declared.command.Refused.{Refused}
use Rattle.history.specs.declared.commanded.Commanded.{Commanded}
use Rattle.history.specs.declared.history.History.{History}
use Rattle.history.specs.declared.lane_list.LaneList.{LaneList}
use Rattle.hop_rule.specs.declared.step.BoardStep.{BoardStep}
use Rattle.hop_rule.specs.declared.step.BoardStep.TheVariants.{Counted, Gate, Weighed}
use Rattle.hop_rule.specs.declared.step.GateStep.TheVariants.{NotShut, Opened, Shut}
use Rattle.board_api.specs.Calls.Results.{IsEmpty, Looked, looking}
use Rattle.board_api.specs.StepWords.{low_half, tail_in}
use Rattle.steer_model.specs.Good.Commands.{IsEnd, gate_lanes, refused_with}
use Rattle.steer_model.specs.Good.Inputs.{Input, setup_in}
use Rattle.steer_model.specs.State.Start.{initial_settings}
use Rattle.steer_model.specs.Steps.Commands.{affects, refused_answer}
use Rattle.run_coupling.specs.Coupling.Tries.{Try, settings_by}

-- The steps are one close that did not shut, and the word that it found counts n visits, of at most
-- so many workers.
pub record FindsVisits (workers : ℕ) (steps : List BoardStep) (n : ℕ) : Type 0 where
  pub word : ℕ
  pub are : steps ≡ Gate (NotShut word) ∷ []
  pub counts : n ≡ low_half word
  pub some : 1 ≤ n
  pub few : n ≤ workers

-- The steps close the gate, look at lanes, and open the gate again, since the last of these lanes,
-- which the command affects, was not found empty. At each lane the head was loaded and then the
-- lane's word.
pub record FindsOneBusy (i : Input) (lanes : List LaneList) (steps : List BoardStep) (c : Command)
    (lane head tail : ℕ) : Type 0 where
  pub within : lane < length lanes
  pub affected : affects (setup_in i) c lane ≡ true
  pub word : ℕ
  pub looked : List Looked
  pub empty : All IsEmpty looked
  pub head_word : ℕ
  pub tail_word : ℕ
  pub are : steps
      ≡ Gate Opened ∷ Counted lane tail_word ∷ Weighed lane head_word
      ∷ looking looked (Gate (Shut word) ∷ [])
  pub head_is : head ≡ low_half head_word
  pub tail_is : tail ≡ tail_in tail_word
  pub apart : head ≢ tail

-- The answer is that the board with these lanes was busy, where the command's try made these steps:
-- so many visits were open, or this lane was not empty.
abbrev pub IsBusyAt : Input → List LaneList → List BoardStep → Commanded → Type 0
IsBusyAt i lanes steps g =
    ((n : ℕ) × (g.answer ≡ says.Busy (busy.Inside n)) × FindsVisits i.plan.workers steps n)
    ⊎ ((lane : ℕ) × (head : ℕ) × (tail : ℕ)
    × (g.answer ≡ says.Busy (busy.NotEmpty lane head tail))
    × FindsOneBusy i lanes steps g.command lane head tail)

module _ (i : Input) (h : History) where
  -- The answer is that the board at which the command has its lanes was busy.
  abbrev pub IsBusy : Try → Type 0
  IsBusy t =
      ((gate_lanes h t.given.command ≡ Some h.lanes) × IsBusyAt i h.lanes t.rx_steps t.given)
      ⊎ ((gate_lanes h t.given.command ≡ Some h.tx_lanes)
      × IsBusyAt i h.tx_lanes t.tx_steps t.given)

  -- The answer of a try: why the command may not be given, or its end, or that it was busy.
  abbrev pub IsAnswered : Try → Option Refused → Type 0
  IsAnswered t (Some why) = t.given.answer ≡ refused_answer why
  IsAnswered t None = IsEnd i t.given.command t.given.answer ⊎ IsBusy t

  -- Each try is answered by the settings after those before it.
  abbrev pub AllAnswered : List Try → Type 0
  AllAnswered [] = Unit {0}
  AllAnswered (t ∷ ts) =
      IsAnswered t (refused_with i (settings_by (initial_settings i.plan) ts) t.given.command)
      × AllAnswered ts
