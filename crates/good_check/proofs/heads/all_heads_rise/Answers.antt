use Rattle.steer_model.specs.Good.Choices.{HeadsRise}
use Rattle.good_check.proofs.HeadsLemmas.{all-lists}
use Rattle.good_check.proofs.ListLemmas.{all-done, all-next}
use Rattle.good_check.proofs.heads.all_heads_rise.Goals as goal

pub loop-choices-preserved : goal.loop-choices-preserved
loop-choices-preserved c =
    all-next (HeadsRise c.args.start c.args.lanes.now) c.as_slice-choices-items.result.now
    c.args.lists.now c.loop-choices.choices-index c.choices-item.result
    c.as_slice-choices-items.ensures c.loop-choices-test.true c.choices-item.is
    (c.in_ok-heads_rise.ensures.yes c.if-not-branch.false) c.loop-choices.invariant

pub returns-clause-yes : goal.returns-clause-yes
returns-clause-yes c = λ t.
    all-lists c.args.start c.args.lanes.now c.args.lists.now
    (all-done (HeadsRise c.args.start c.args.lanes.now) c.as_slice-choices-items.result.now
    c.args.lists.now c.loop-choices.choices-index c.as_slice-choices-items.ensures
    c.loop-choices-test.false c.loop-choices.invariant)
