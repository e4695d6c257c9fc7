-- The lists that a board's order of steps leaves.
use Rattle.std.specs.Prelude.{ℕ, List, length, map}
use Rattle.std.specs.List.{range_with_len}
use Rattle.linearization.specs.Orders.{StepBy}
use Rattle.history.specs.declared.lane_list.LaneList.{LaneList}
use Rattle.hop_rule.specs.Boards.{lane_at, lanes_of, out, retired}
use Rattle.hop_rule.specs.Deliveries.{delivered_from}
use Rattle.hop_rule.specs.declared.sizes.BoardSizes.{BoardSizes}
use Rattle.hop_rule.specs.declared.step.BoardStep.{BoardStep}
use Rattle.board_api.specs.declared.lists.BoardLists.{BoardLists}

-- The middle lane l after an order, as a history has it.
abbrev pub lane_list : BoardSizes → List (StepBy BoardStep) → ℕ → LaneList
lane_list about order l =
    record {
      accepted = (lane_at about order l).accepted;
      drops = (lane_at about order l).drops;
      pulled = (lane_at about order l).pulled;
      delivered = length (delivered_from l (lanes_of order));
      retired = retired about order l;
    }

-- The lists of all lanes after an order, by number.
abbrev pub lists_of : BoardSizes → List (StepBy BoardStep) → BoardLists
lists_of about order =
    record {
      lanes = map (lane_list about order) (range_with_len 0 about.lanes);
      outs = map (out about order) (range_with_len 0 about.outs);
    }
