use Rattle.std.proofs.Common.{◌≡◌, [], length, map, replicate}
use Rattle.hop_core.specs.LaneTable.{AreShaped}
use Rattle.hop_core.proofs.lanes.Lanes.make.Given as goal

abbrev pub invariant-loop-lane : goal.invariant-loop-lane
invariant-loop-lane l = record {
  accepted : map (λ l. l.accepted) l.lanes.items ≡ replicate l.lane [];
  offers : map (λ l. l.offers) l.lanes.items ≡ replicate l.lane [];
  drops : map (λ l. l.drops) l.lanes.items ≡ replicate l.lane [];
  pulled : map (λ l. l.pulled) l.lanes.items ≡ replicate l.lane 0;
  many : length l.lanes.items ≡ l.lane;
  shaped : AreShaped l.limit l.room l.start l.limited l.lanes.items;
}
