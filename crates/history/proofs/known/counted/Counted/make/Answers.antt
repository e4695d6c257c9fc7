use Rattle.std.proofs.Common.{◌++◌, ◌∷◌, [], sym, ◌∙◌, ap, arith, length, map}
use Rattle.std.specs.List.{range_with_len}
use Rattle.std.proofs.lemmas.List.FromFn.{map-range_with_len_more}
use Rattle.history.specs.Counted.{rank_of}
use Rattle.history.proofs.CountLemmas.{counts-resized, counted-room, counted-arrival}
use Rattle.history.proofs.CountLemmas.{counted-rank}
use Rattle.history.proofs.known.counted.Counted.make.Goals as goal

pub loop-arrival-init : goal.loop-arrival-init
loop-arrival-init c = record {
  arrived = counts-resized c.resize.new.self.items c.new-arrived.result.items _ _
      (length c.args.h.now.taken) c.in_ok-resize.ensures.items c.new-arrived.ensures.items
      c.new-arrived.ensures.len c.len.ensures;
  ranks = c.in_ok-ranks.ensures.items;
}

pub note_arrival-requires : goal.note_arrival-requires
note_arrival-requires c = record {
  room =
      counted-room c.args.h.now c.loop-arrival.arrival-index c.as_slice-arrival-items.result.now
      c.arrival-item.result c.loop-arrival.arrived.items c.requires.numbered c.requires.few
      c.as_slice-arrival-items.ensures c.loop-arrival-test.true c.arrival-item.is
      c.loop-arrival.invariant.arrived;
}

pub loop-arrival-preserved : goal.loop-arrival-preserved
loop-arrival-preserved c = record {
  arrived =
      counted-arrival c.args.h.now c.loop-arrival.arrival-index c.as_slice-arrival-items.result.now
      c.arrival-item.result c.loop-arrival.arrived.items c.requires.numbered c.requires.few
      c.as_slice-arrival-items.ensures c.loop-arrival-test.true c.arrival-item.is
      c.loop-arrival.invariant.arrived c.note_arrival.new.arrived.items
      c.note_arrival.ensures.count;
  ranks =
      c.in_ok-push.ensures.items ∙ ap (λ ranks. ranks ++ c.note_arrival.result
      ∷ []) c.loop-arrival.invariant.ranks
      ∙ ap (λ r. map (rank_of c.args.h.now) (range_with_len 0 c.loop-arrival.arrival-index) ++ r
      ∷ [])
      (c.note_arrival.ensures.before
      ∙ counted-rank c.args.h.now c.loop-arrival.arrival-index c.as_slice-arrival-items.result.now
      c.arrival-item.result c.loop-arrival.arrived.items c.requires.numbered c.requires.few
      c.as_slice-arrival-items.ensures c.loop-arrival-test.true c.arrival-item.is
      c.loop-arrival.invariant.arrived)
      ∙ sym (map-range_with_len_more (rank_of c.args.h.now) 0 c.loop-arrival.arrival-index
      c.loop-arrival.arrival-index (omega arith));
}
