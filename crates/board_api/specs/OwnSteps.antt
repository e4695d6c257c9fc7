-- What follows from a seat's own list. Lists of steps have the newest first.
use Rattle.std.specs.Prelude.{◌≡◌, ℕ, ◌==◌, List, Option, Some, None, if◌then◌else◌}
use Rattle.std.specs.List.{filter_map}
use Rattle.steer_base.specs.Lanes.{LaneLists}
use Rattle.steer_base.specs.declared.put.Put.{Put}
use Rattle.steer_base.specs.declared.put.Put.TheVariants.{At, Dropped}
use Rattle.hop_rule.specs.Boards.{lane_steps, gate_steps}
use Rattle.hop_rule.specs.Deliveries.{Delivery, delivery}
use Rattle.hop_rule.specs.Gates.{inside, visit, visit_number}
use Rattle.hop_rule.specs.Lanes.{holding}
use Rattle.hop_rule.specs.Moments.{nth_step, past}
use Rattle.hop_rule.specs.declared.step.BoardStep.{BoardStep}
use Rattle.hop_rule.specs.declared.step.BoardStep.TheVariants.{Gate, Lane}
use Rattle.hop_rule.specs.declared.step.Change.TheVariants.{Offered, Pulled}
use Rattle.hop_rule.specs.declared.step.GateStep.TheVariants.{Read}
use Rattle.hop_rule.specs.declared.step.LaneStep.TheVariants.{Freed, Given, Retired}

-- The step with this number, from 0 at the oldest, is this one.
abbrev pub Has : List BoardStep → ℕ → BoardStep → Type 0
Has own k d = nth_step own k ≡ Some d

-- The put of a packet with its hash to the lane l, with its answer.
abbrev pub put_step : ℕ → ℕ → Option ℕ → Put → BoardStep
put_step l id hash answer = Lane (Freed l (Offered id hash answer))

-- What the seat found of the middle lane l, if it held the lane before its step k.
abbrev pub held_before : List BoardStep → ℕ → ℕ → Option LaneLists
held_before own k l = holding l (lane_steps (past k own))

-- The number of the last visit that the seat began before its step k.
abbrev pub visit_before : List BoardStep → ℕ → ℕ
visit_before own k = visit_number (gate_steps (past k own))

-- The seat read this value of a setting in a visit with this number.
pub record ReadsIn (own : List BoardStep) (number setting value : ℕ) : Type 0 where
  pub step : ℕ
  pub reads : Has own step (Gate (Read setting value))
  pub visits : visit (gate_steps (past step own)) ≡ inside
  pub number_is : visit_before own step ≡ number

-- ---- of one middle lane

-- The packet that a step put to the lane and that was accepted, if it is such a step.
abbrev pub accepted_in : ℕ → BoardStep → Option ℕ
accepted_in l (Lane (Freed i (Offered id hash (At n)))) = if i == l then Some id else None
accepted_in l _ = None

-- The packet that a step put to the lane and that was dropped, if it is such a step.
abbrev pub dropped_in : ℕ → BoardStep → Option ℕ
dropped_in l (Lane (Freed i (Offered id hash (Dropped number accepted pulled cause)))) =
    if i == l then Some id else None
dropped_in l _ = None

-- The packet that a step pulled from the lane, if it is such a step.
abbrev pub pulled_in : ℕ → BoardStep → Option ℕ
pulled_in l (Lane (Freed i (Pulled id))) = if i == l then Some id else None
pulled_in l _ = None

-- The delivery from the lane that a step is, if it is one.
abbrev pub delivered_in : ℕ → BoardStep → Option Delivery
delivered_in l (Lane (Given o from id place)) =
    if from == l then Some (delivery o id place) else None
delivered_in l _ = None

-- The packet that a step delivered to the out lane o, if it is such a step.
abbrev pub given_in : ℕ → BoardStep → Option ℕ
given_in o (Lane (Given i from id place)) = if i == o then Some id else None
given_in o _ = None

-- The word that a raise of the lane's head found, if the step is one.
abbrev pub retired_in : ℕ → BoardStep → Option ℕ
retired_in l (Lane (Retired i word)) = if i == l then Some word else None
retired_in l _ = None

-- The packets that a seat put to the lane and that were accepted.
abbrev pub accepted_by : ℕ → List BoardStep → List ℕ
accepted_by l own = filter_map (accepted_in l) own

-- The packets that a seat put to the lane and that were dropped.
abbrev pub dropped_by : ℕ → List BoardStep → List ℕ
dropped_by l own = filter_map (dropped_in l) own

-- The packets that a seat pulled from the lane.
abbrev pub pulled_by : ℕ → List BoardStep → List ℕ
pulled_by l own = filter_map (pulled_in l) own

-- The deliveries of a seat from the lane.
abbrev pub delivered_by : ℕ → List BoardStep → List Delivery
delivered_by l own = filter_map (delivered_in l) own

-- The packets that a seat delivered to the out lane o.
abbrev pub given_to : ℕ → List BoardStep → List ℕ
given_to o own = filter_map (given_in o) own

-- The words that a seat found when it raised the lane's head.
abbrev pub retired_by : ℕ → List BoardStep → List ℕ
retired_by l own = filter_map (retired_in l) own
