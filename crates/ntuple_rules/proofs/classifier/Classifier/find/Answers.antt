use Rattle.std.proofs.Common.{◌≡◌, sym, ◌∙◌}
use Rattle.ntuple_rules.specs.Groups.{found_among}
use Rattle.ntuple_rules.specs.Matches.{first_match}
use Rattle.ntuple_rules.proofs.Ordered.{ends_here}
use Rattle.ntuple_rules.proofs.Searched.{order-starts}
use Rattle.ntuple_rules.proofs.classifier.Classifier.find.Goals as goal

pub returns-in-Some : goal.returns-in-Some
returns-in-Some c =
    let flow = c.args.flow.now in
    let items = c.as_slice-groups.result.now in
    let same : items ≡ c.self.inside.groups.items = c.as_slice-groups.ensures.value in
    let finds : found_among items flow ≡ first_match c.args.self.now flow =
    rw (same, ← c.self.view_is) (c.self.invariant.finds flow) in
    let order = rw (sym same) at c.self.invariant.order in
    sym c.in-Some.is
    ∙ sym (ends_here items _ c.loop-place.place c.index-groups-place.result c.loop-place.found
    c.in-Some.number flow c.loop-place-test.true order c.in-Some.is c.if-number-groups.true)
    ∙ c.loop-place.invariant.found ∙ finds

pub find_among-found-requires-clause-starts : goal.find_among-found-requires-clause-starts
find_among-found-requires-clause-starts c =
    let items = c.as_slice-groups.result.now in
    let same : items ≡ c.self.inside.groups.items = c.as_slice-groups.ensures.value in
    let order = rw (sym same) at c.self.invariant.order in
    order-starts items 0 _ order
