-- The deliveries of a middle lane.
use Rattle.std.specs.Prelude.{ℕ, ◌==◌, List, [], ◌∷◌, if◌then◌else◌}
use Rattle.linearization.specs.Orders.{StepBy}
use Rattle.hop_rule.specs.declared.step.LaneStep.{LaneStep}
use Rattle.hop_rule.specs.declared.step.LaneStep.TheVariants.{Given}

-- A delivery: the out lane, the packet, and its place there, from 1.
pub record Delivery : Type 0 where
  pub to : ℕ
  pub id : ℕ
  pub place : ℕ

-- The delivery of a packet to the out lane o at this place.
abbrev pub delivery : (out id place : ℕ) → Delivery
delivery o id place = record { to = o; id = id; place = place }

-- The deliveries from the middle lane l after a step.
abbrev pub given_after : ℕ → LaneStep → List Delivery → List Delivery
given_after l (Given o from id place) gs =
    if from == l then delivery o id place ∷ gs else gs
given_after l _ gs = gs

-- The deliveries from the middle lane l, the newest first.
abbrev pub delivered_from : ℕ → List (StepBy LaneStep) → List Delivery
delivered_from l [] = []
delivered_from l (e ∷ es) = given_after l e.step (delivered_from l es)
