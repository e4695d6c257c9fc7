use Rattle.std.proofs.Common.{◌≡◌, drop, map}
use Rattle.history.specs.Finding.{is_in}
use Rattle.history.specs.Lists.{drop_ids}
use Rattle.history.proofs.lane_list.LaneList.has_dropped.Given as goal

abbrev pub invariant-loop-fallen : goal.invariant-loop-fallen
invariant-loop-fallen l = is_in l.id (map (λ d. d.id) (drop l.fallen-index l.self.drops)) ≡ is_in
    l.id (drop_ids l.self)
