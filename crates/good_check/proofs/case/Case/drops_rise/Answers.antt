use Rattle.std.proofs.Common.{◌≡◌, false, true}
use Rattle.steer_model.specs.Good.Drops.{DropsRise}
use Rattle.good_check.proofs.ListLemmas.{all-done, all-here, all-next}
use Rattle.good_check.proofs.case.Case.drops_rise.Goals as goal

pub returns-then-not-rise-clause-no : goal.returns-then-not-rise-clause-no
returns-then-not-rise-clause-no c = λ all.
    let here : DropsRise c.lane-item.result =
    all-here DropsRise c.as_slice-lane-items.result.now c.args.self.now.h.now.lanes
    c.loop-lane.lane-index c.lane-item.result c.as_slice-lane-items.ensures c.loop-lane-test.true
    c.lane-item.is all in
    let t : c.rise.result ≡ true = c.rise.ensures.no here in
    let f : c.rise.result ≡ false = c.if-not-rise.true in cc

pub loop-lane-preserved : goal.loop-lane-preserved
loop-lane-preserved c =
    all-next DropsRise c.as_slice-lane-items.result.now c.args.self.now.h.now.lanes
    c.loop-lane.lane-index c.lane-item.result c.as_slice-lane-items.ensures c.loop-lane-test.true
    c.lane-item.is (c.rise.ensures.yes c.if-not-rise.false) c.loop-lane.invariant

pub returns-clause-yes : goal.returns-clause-yes
returns-clause-yes c = λ t.
    all-done DropsRise c.as_slice-lane-items.result.now c.args.self.now.h.now.lanes
    c.loop-lane.lane-index c.as_slice-lane-items.ensures c.loop-lane-test.false
    c.loop-lane.invariant
