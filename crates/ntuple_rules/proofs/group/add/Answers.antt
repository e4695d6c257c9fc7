use Rattle.ntuple_rules.proofs.Found.{adds_here}
use Rattle.ntuple_rules.proofs.Ordered.{order-here}
use Rattle.ntuple_rules.proofs.Searched.{finds_more}
use Rattle.ntuple_rules.proofs.group.add.Goals as goal

pub returns-clause-more : goal.returns-clause-more
returns-clause-more c =
    let rule = c.args.rule.now in
    let at = rw c.shape_of-shape.ensures at c.in_ok-place.ensures.at in
    let adds = rw c.key_of-key.ensures at c.in_ok-add.ensures in
    finds_more c.args.groups.now.items c.place_of.new.groups.items c.in_ok-place.place
    c.index_mut.result.now c.add.new.self rule c.args.number c.index_mut.ensures.value
    c.in_ok-place.ensures.no_more at adds

pub returns-clause-finds : goal.returns-clause-finds
returns-clause-finds c =
    let rule = c.args.rule.now in
    let at = rw c.shape_of-shape.ensures at c.in_ok-place.ensures.at in
    let adds = rw c.key_of-key.ensures at c.in_ok-add.ensures in
    adds_here c.args.groups.now.items c.place_of.new.groups.items c.in_ok-place.place
    c.index_mut.result.now c.add.new.self rule c.args.number
    c.index_mut.ensures.value c.in_ok-place.ensures.same at adds

pub returns-clause-order : goal.returns-clause-order
returns-clause-order c order =
    order-here c.place_of.new.groups.items c.args.number c.in_ok-place.place
    c.shape_of-shape.result c.index_mut.result.now c.add.new.self c.key_of-key.result
    c.index_mut.ensures.value c.in_ok-place.ensures.at c.in_ok-add.ensures
    (c.in_ok-place.ensures.order order)
