use Rattle.std.proofs.Common.{◌+◌, arith}
use Rattle.steer_base.specs.declared.put.Put.TheVariants.{Dropped}
use Rattle.history.specs.Lines.{drop_in}
use Rattle.history.proofs.IndexLemmas.{index-next, value_at-drops}
use Rattle.history.proofs.known.index.index_drops.Goals as goal

pub loop-lane-preserved : goal.loop-lane-preserved
loop-lane-preserved c =
    index-next (λ d. d.id) (λ i d. Dropped (i + 1) d.accepted d.pulled d.cause)
    (λ lane. lane.drops) drop_in value_at-drops c.args.count c.loop-lane.lane-index
    (c.loop-lane.lane-index + 1)
    c.loop-lane.index c.note_drops.new.index c.as_slice-lane-items.result.now c.args.lanes.now
    c.lane-item.result
    c.as_slice-lane-items.ensures c.loop-lane-test.true c.lane-item.is
    (omega arith) c.note_drops.ensures c.loop-lane.invariant
