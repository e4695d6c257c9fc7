-- The puts and the visits in a seat's own list. Lists have the newest step first.
use Rattle.std.specs.Prelude.{ℕ, List, Option, Some, None}
use Rattle.std.specs.List.{filter_map}
use Rattle.steer_base.specs.declared.put.Put.{Put}
use Rattle.linearization.specs.Orders.{StepBy, steps_of}
use Rattle.hop_rule.specs.declared.step.BoardStep.{BoardStep}
use Rattle.hop_rule.specs.declared.step.BoardStep.TheVariants.{Lane, Gate}
use Rattle.hop_rule.specs.declared.step.LaneStep.TheVariants.{Freed}
use Rattle.hop_rule.specs.declared.step.GateStep.{GateStep}
use Rattle.hop_rule.specs.declared.step.GateStep.TheVariants.{Entered, Turned, Left, Shut, NotShut}
use Rattle.hop_rule.specs.declared.step.GateStep.TheVariants.{Opened, Set}
use Rattle.hop_rule.specs.declared.step.Change.TheVariants.{Offered}

-- The own list of the seat q, as part of an order of all steps.
abbrev pub own_of : List (StepBy BoardStep) → ℕ → List BoardStep
own_of order q = steps_of q order

-- A put: the lane, the packet, its hash and the answer. The counts that it found are in the hold
-- before it.
pub record PutMade : Type 0 where
  pub lane : ℕ
  pub id : ℕ
  pub hash : Option ℕ
  pub answer : Put

-- The put of a packet with its hash to the lane l, with its answer.
abbrev pub put_made : ℕ → ℕ → Option ℕ → Put → PutMade
put_made l id hash answer = record { lane = l; id = id; hash = hash; answer = answer }

-- The put that a step is, if it is one.
abbrev pub put_in : BoardStep → Option PutMade
put_in (Lane (Freed l (Offered id hash answer))) = Some (put_made l id hash answer)
put_in _ = None

-- The puts in a seat's own list.
abbrev pub puts_of : List BoardStep → List PutMade
puts_of ds = filter_map put_in ds

-- The step at the gate or a setting that a step is, if it is one and not a read of a setting.
abbrev pub visit_in : BoardStep → Option GateStep
visit_in (Gate (Entered w)) = Some (Entered w)
visit_in (Gate (Turned w)) = Some (Turned w)
visit_in (Gate Left) = Some Left
visit_in (Gate (Shut w)) = Some (Shut w)
visit_in (Gate (NotShut w)) = Some (NotShut w)
visit_in (Gate Opened) = Some Opened
visit_in (Gate (Set i v)) = Some (Set i v)
visit_in _ = None

-- The steps at the gate and the sets in a seat's own list.
abbrev pub visits_of : List BoardStep → List GateStep
visits_of ds = filter_map visit_in ds
