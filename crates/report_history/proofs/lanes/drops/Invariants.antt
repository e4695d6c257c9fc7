use Rattle.std.proofs.Common.{◌≡◌, ◌++◌, drop}
use Rattle.std.specs.List.{filter_map}
use Rattle.report_history.specs.Shown.{shown_drop}
use Rattle.report_history.proofs.lanes.drops.Given as goal

abbrev pub invariant-loop-id : goal.invariant-loop-id
invariant-loop-id l = l.drops.items ++ filter_map (shown_drop l.seen) (drop l.id-index l.ids)
    ≡ filter_map (shown_drop l.seen) l.ids
