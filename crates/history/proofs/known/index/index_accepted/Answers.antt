use Rattle.std.proofs.Common.{◌+◌, arith}
use Rattle.steer_base.specs.Entries.{place_in}
use Rattle.history.proofs.IndexLemmas.{index-next, value_at-places}
use Rattle.history.proofs.known.index.index_accepted.Goals as goal

pub loop-lane-preserved : goal.loop-lane-preserved
loop-lane-preserved c =
    index-next (λ y. y) (λ i y. i + 1) (λ lane. lane.accepted) (λ x lane. place_in x lane.accepted)
    (λ x lane. value_at-places x lane.accepted) c.args.count c.loop-lane.lane-index
    (c.loop-lane.lane-index + 1)
    c.loop-lane.index c.note_places.new.index c.as_slice-lane-items.result.now c.args.lanes.now
    c.lane-item.result
    c.as_slice-lane-items.ensures c.loop-lane-test.true c.lane-item.is
    (omega arith) c.note_places.ensures c.loop-lane.invariant
