use Rattle.std.proofs.Common.{◌+◌, arith}
use Rattle.steer_base.specs.Entries.{place_in}
use Rattle.history.proofs.IndexLemmas.{index-next, value_at-places}
use Rattle.history.proofs.known.index.index_places.Goals as goal

pub loop-list-preserved : goal.loop-list-preserved
loop-list-preserved c =
    index-next (λ y. y) (λ i y. i + 1) (λ list. list) place_in value_at-places c.args.count
    c.loop-list.list-index (c.loop-list.list-index + 1)
    c.loop-list.index c.note_places.new.index c.as_slice-list-items.result.now c.args.lists.now
    c.list-item.result
    c.as_slice-list-items.ensures c.loop-list-test.true c.list-item.is
    (omega arith) c.note_places.ensures c.loop-list.invariant
