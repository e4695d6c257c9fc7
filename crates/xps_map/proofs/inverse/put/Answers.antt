use Rattle.std.proofs.Common.{sym, ◌∙◌, arith}
use Rattle.xps_map.proofs.InverseLemmas.{Puts-all, Puts-more, rest-more}
use Rattle.xps_map.proofs.inverse.put.Goals as goal

pub loop-tx-preserved : goal.loop-tx-preserved
loop-tx-preserved c = record {
  done = Puts-more c.args.tx c.lowest-place.result c.args.places c.loop-tx.rest
      c.without-rest.result c.args.stands c.args.sets.now c.loop-tx.sets _
      c.loop-tx.invariant.done c.put_at.ensures
      (c.loop-tx.invariant.rest c.lowest-place.result c.lowest-place.ensures.member)
      c.without-rest.ensures.members;
  fits = omega arith;
  rest = rest-more c.args.places c.loop-tx.rest c.without-rest.result c.lowest-place.result
      c.loop-tx.invariant.rest c.without-rest.ensures.members;
}

pub returns : goal.returns
returns c =
    Puts-all c.args.tx c.args.places c.loop-tx.rest c.args.stands c.args.sets.now c.loop-tx.sets
    c.loop-tx.invariant.fits (sym c.is_empty.ensures ∙ c.loop-tx-test.false)
    c.loop-tx.invariant.done
