use Rattle.std.proofs.Common.{◌≡◌, length, arith}
use Rattle.ntuple_rules.proofs.Found.{at_end, found_among-new}
use Rattle.ntuple_rules.proofs.Ordered.{order-new}
use Rattle.ntuple_rules.proofs.Searched.{no_more-new}
use Rattle.ntuple_rules.proofs.group.place_of.Goals as goal

pub returns-in_ok-push-in-None-clause-same : goal.returns-in_ok-push-in-None-clause-same
returns-in_ok-push-in-None-clause-same c =
    rw c.in_ok-push-in-None.ensures.items
    (found_among-new c.args.groups.now.items c.new-group.result c.args.shape
    c.args.number c.new-group.ensures)

pub returns-in_ok-push-in-None-clause-at : goal.returns-in_ok-push-in-None-clause-at
returns-in_ok-push-in-None-clause-at c =
    let groups = c.args.groups.now.items in
    let is : c.len-place.result ≡ length groups = omega (arith, c.len-place.ensures) in
    rw c.in_ok-push-in-None.ensures.items
    (at_end groups c.new-group.result c.len-place.result c.args.shape is
    c.new-group.ensures.shaped)

pub returns-in_ok-push-in-None-clause-order : goal.returns-in_ok-push-in-None-clause-order
returns-in_ok-push-in-None-clause-order c =
    rw c.in_ok-push-in-None.ensures.items
    (order-new c.args.groups.now.items 0 c.new-group.result c.args.shape c.args.number
    c.new-group.ensures)

pub returns-in_ok-push-in-None-clause-no_more : goal.returns-in_ok-push-in-None-clause-no_more
returns-in_ok-push-in-None-clause-no_more c =
    rw c.in_ok-push-in-None.ensures.items
    (no_more-new c.args.groups.now.items c.new-group.result c.args.shape c.args.number
    c.new-group.ensures)
