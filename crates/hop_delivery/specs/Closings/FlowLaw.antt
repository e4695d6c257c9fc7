-- The law of delivery in order at a closing, by the seats' own lists and the lists that the board
-- leaves.
use Rattle.std.specs.Prelude.{ℕ, List, map}
use Rattle.steer_base.specs.Orders.{InOrder}
use Rattle.history.specs.{Lists.lane_at, Lists.list_at, declared.lane_list.LaneList.LaneList}
use Rattle.hop_rule.specs.declared.{sizes.BoardSizes.BoardSizes, step.BoardStep.BoardStep}
use Rattle.board_api.specs.declared.lists.BoardLists.{BoardLists}
use Rattle.hop_delivery.specs.Orders.{DeliveryLaw.came_by, Premises.MeetsPremises}
use Rattle.hop_delivery.specs.Orders.Runs.{Execution, Steering, IsSteering}

-- The packets that each middle lane accepted, by the lists that are left.
abbrev pub accepted_left : BoardLists → ℕ → List ℕ
accepted_left lists l = (lane_at lists.lanes l).accepted

-- If the six premises hold of the seats' own lists and of what the lanes accepted, then for each
-- producer and flow the packets left in the flow's out lane are a prefix of those that arrived,
-- without those that were dropped.
abbrev pub FlowsAreInOrder : BoardSizes → (ℕ → List BoardStep) → BoardLists → Type 0
FlowsAreInOrder about own lists = (t : Execution) (r : Steering) → IsSteering about.lanes r
    → MeetsPremises about own (accepted_left lists) t r → (p f : ℕ)
    → InOrder (came_by t r p f) (t.arrivals p)
    (map (λ (lane : LaneList). lane.drops) lists.lanes) (list_at lists.outs (r.to f))
