-- What the controller keeps of its tries, and the steps that each has left in its own lists at the
-- two boards. Lists of tries and of steps have the newest first.
use Rattle.std.specs.Prelude.{◌≡◌, ◌⊎◌, ℕ, ◌==◌, true, false, List, [], ◌∷◌, ◌++◌}
use Rattle.std.specs.Prelude.{Option, Some, None, map, if◌then◌else◌}
use Rattle.std.specs.List.{filter_map}
use Rattle.steer_base.specs.declared.command.Command.{Command}
use Rattle.history.specs.declared.commanded.Commanded.{Commanded}
use Rattle.history.specs.declared.history.History.{History}
use Rattle.hop_rule.specs.Boards.{gate_steps}
use Rattle.hop_rule.specs.Gates.{openings, own_settings}
use Rattle.hop_rule.specs.Sizes.{closer}
use Rattle.hop_rule.specs.declared.sizes.BoardSizes.{BoardSizes}
use Rattle.hop_rule.specs.declared.step.BoardStep.{BoardStep}
use Rattle.hop_rule.specs.declared.step.GateStep.{GateStep}
use Rattle.hop_rule.specs.declared.step.GateStep.TheVariants.{Opened, Set}
use Rattle.hop_delivery.specs.Orders.Commands.{SettingChange, received_sets, sent_sets}
use Rattle.steer_model.specs.Good.Inputs.{Input}
use Rattle.steer_model.specs.State.Settings.{Settings, changed}
use Rattle.steer_model.specs.Steps.Commands.{is_done}
use Rattle.run_coupling.specs.Coupling.Inputs.{receive_queues}
use Rattle.run_words.specs.Lists.{oldest_first}

-- One try of a command: the command with its answer, and the steps that it added to the
-- controller's
-- own lists at the receive board and at the transmit board.
pub record Try : Type 0 where
  pub given : Commanded
  pub rx_steps : List BoardStep
  pub tx_steps : List BoardStep

-- The steps of a try at the receive board.
abbrev pub at_receive : Try → List BoardStep
at_receive t = t.rx_steps

-- The steps of a try at the transmit board.
abbrev pub at_transmit : Try → List BoardStep
at_transmit t = t.tx_steps

-- The steps of all tries at a board.
abbrev pub steps_of_tries : (Try → List BoardStep) → List Try → List BoardStep
steps_of_tries at [] = []
steps_of_tries at (t ∷ ts) = at t ++ steps_of_tries at ts

-- A set or an opening, if a step at the gate is one.
abbrev pub set_or_opening : GateStep → Option GateStep
set_or_opening (Set word value) = Some (Set word value)
set_or_opening Opened = Some Opened
set_or_opening _ = None

-- The sets and the openings among the steps of a seat.
abbrev pub sets_and_openings : List BoardStep → List GateStep
sets_and_openings ds = filter_map set_or_opening (gate_steps ds)

-- What a try sets and opens. A done command with a setting on the board makes this one setting and
-- opens the gate; a done one without makes none; one that was not done sets nothing, though it may
-- have closed and opened the gate.
abbrev pub SetsByAnswer : (ℕ → ℕ) → ((ℕ → ℕ) → Command → List SettingChange) → Commanded
    → List GateStep → Type 0
SetsByAnswer words sets c gs =
    ((is_done c.answer ≡ true) × (m : SettingChange) × (sets words c.command ≡ m ∷ [])
    × (gs ≡ Opened ∷ Set m.word m.value ∷ []))
    ⊎ ((is_done c.answer ≡ true) × (sets words c.command ≡ []) × (gs ≡ []))
    ⊎ ((is_done c.answer ≡ false) × ((gs ≡ []) ⊎ (gs ≡ Opened ∷ [])))

module _ (about : BoardSizes) (sets : (ℕ → ℕ) → Command → List SettingChange)
    (at : Try → List BoardStep) where
  -- The words of the board's settings after these tries.
  abbrev pub words_after : List Try → ℕ → ℕ
  words_after ts = own_settings about (gate_steps (steps_of_tries at ts))

  -- Each try sets and opens as its answer says.
  abbrev pub AllSetByAnswer : List Try → Type 0
  AllSetByAnswer [] = Unit {0}
  AllSetByAnswer (t ∷ ts) =
      SetsByAnswer (words_after ts) sets t.given (sets_and_openings (at t)) × AllSetByAnswer ts

-- How often these tries have opened the gate.
abbrev pub openings_by : (Try → List BoardStep) → List Try → ℕ
openings_by at ts = openings (sets_and_openings (steps_of_tries at ts))

-- The tries up to the one that made the n-th opening, and none for 0.
abbrev pub tries_up_to : (Try → List BoardStep) → ℕ → List Try → List Try
tries_up_to at n [] = []
tries_up_to at n (t ∷ ts) =
    if openings_by at (t ∷ ts) == n
    then (if openings_by at ts == n then tries_up_to at n ts else t ∷ ts)
    else tries_up_to at n ts

-- The settings after those of these tries that were done.
abbrev pub settings_by : Settings → List Try → Settings
settings_by s [] = s
settings_by s (t ∷ ts) =
    if is_done t.given.answer then changed (settings_by s ts) t.given.command
    else settings_by s ts

-- ---- the controller's journal

module _ (i : Input) (h : History) (about : BoardSizes) (own : ℕ → List BoardStep)
    (tries : List Try)
  where
    -- The controller has made no step at the receive board but those of its tries.
    pub record KeepsReceiveTries : Type 0 where
      pub commands : h.commands ≡ oldest_first (map (λ t. t.given) tries)
      pub own_list : own (closer about) ≡ steps_of_tries at_receive tries
      pub are : AllSetByAnswer about (received_sets (receive_queues i)) at_receive tries

    -- The controller has made no step at the transmit board but those of its tries.
    pub record KeepsTransmitTries (count : ℕ) : Type 0 where
      pub commands : h.commands ≡ oldest_first (map (λ t. t.given) tries)
      pub own_list : own (closer about) ≡ steps_of_tries at_transmit tries
      pub are : AllSetByAnswer about (λ w c. sent_sets count c) at_transmit tries
