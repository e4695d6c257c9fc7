-- The law of delivery in order, over an order of all steps on a board.
use Rattle.std.specs.List.{list_any}
use Rattle.std.specs.Prelude.{ℕ, Bool, ◌&&◌, ◌==◌, List}
use Rattle.steer_base.specs.Orders.{InOrder}
use Rattle.linearization.specs.Orders.{StepBy}
use Rattle.hop_rule.specs.Boards.{IsLawful, accepted, drops, out}
use Rattle.hop_rule.specs.{Owns.own_of, Sizes.FitSizes}
use Rattle.hop_rule.specs.declared.{sizes.BoardSizes.BoardSizes, step.BoardStep.BoardStep}
use Rattle.hop_delivery.specs.Orders.Premises.{MeetsPremises}
use Rattle.hop_delivery.specs.Orders.Runs.{Execution, Steering, IsSteering}

-- The packets of the flow f that arrived at the producer p.
abbrev pub came_by : Execution → Steering → (producer flow packet : ℕ) → Bool
came_by t r p f x = list_any (λ y. y == x) (t.arrivals p) && (r.flow x == f)

-- If the premises hold of the own lists that a lawful order has as its parts, then for each
-- producer and flow the packets that the order delivered to the flow's out lane are a prefix of
-- those that arrived, without those that the order dropped.
abbrev pub DeliversInOrder : Type 0
DeliversInOrder =
    (about : BoardSizes) (order : List (StepBy BoardStep)) (t : Execution) (r : Steering)
    → FitSizes about → IsLawful about order → IsSteering about.lanes r
    → MeetsPremises about (own_of order) (accepted about order) t r → (p f : ℕ)
    → InOrder (came_by t r p f) (t.arrivals p) (drops about order) (out about order (r.to f))
