use Rattle.std.proofs.Common.{◌≡◌, ◌<◌, List, length, ap, sym, ◌∙◌, get_or}
use Rattle.std.proofs.Math.ListN.{length-set}
use Rattle.std.proofs.lemmas.List.{length-map}
use Rattle.steer_base.specs.Lanes.{LaneLists}
use Rattle.backlog.specs.Puts.{after_take}
use Rattle.hop_core.specs.LaneTable.{LaneTable, lane_at, with_lane}
use Rattle.hop_core.proofs.lanes.Lanes.pull.Goals as goal
use Rattle.hop_core.proofs.LaneTables.{AreShaped-set, lane_at-table_of, table_of}
use Rattle.hop_core.proofs.LaneTables.{with_lane-table_of}

pub returns-clause-lists : goal.returns-clause-lists
returns-clause-lists c =
    let i = c.self.inside in
    let ls : List LaneLists = i.lanes.items in
    let old : LaneLists = c.index_mut-lane.result.now in
    let below : c.args.lane < length ls = rw (← c.self.view_is, length-map) at c.requires in
    let at : old ≡ get_or ls c.args.lane old = c.index_mut-lane.ensures.value in
    let t : LaneTable = table_of ls i.limit i.room i.start i.limited in
    let is : lane_at t c.args.lane ≡ old =
    lane_at-table_of ls i.limit i.room i.start i.limited c.args.lane old below at
    c.self.invariant.2 in
    with_lane-table_of ls i.limit i.room i.start i.limited c.args.lane c.take.new.self
    ∙ ap (with_lane t c.args.lane) (c.take.ensures.lists ∙ ap (λ l. after_take l) (sym is))
    ∙ ap (λ t. with_lane t c.args.lane (after_take (lane_at t c.args.lane))) c.self.view_is

pub invariant_of-self : goal.invariant_of-self
invariant_of-self c =
    let i = c.self.inside in
    let below : c.args.lane < length i.lanes.items =
    rw (← c.self.view_is, length-map) at c.requires in (
      c.self.invariant.0,
      rw length-set c.self.invariant.1,
      AreShaped-set i.lanes.items i.limit i.room i.start i.limited c.args.lane
          c.index_mut-lane.result.now c.take.new.self below
          c.index_mut-lane.ensures.value c.take.ensures.shape c.self.invariant.2,
    )
