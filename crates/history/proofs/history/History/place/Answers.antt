use Rattle.std.proofs.Common.{◌<◌, sym, ◌∙◌, arith, []}
use Rattle.history.specs.Finding.{is_in, is_among}
use Rattle.history.specs.Lists.{no_lane, drop_ids}
use Rattle.history.proofs.FindingLemmas.{is_in-among}
use Rattle.history.proofs.PositionLemmas.{position-passes}
use Rattle.history.proofs.history.History.place.Goals as goal

pub overflow_cast-result : goal.overflow_cast-result
overflow_cast-result c =
    let at = position-passes (λ lane. is_in c.args.id (drop_ids lane)) c.args.self.now.lanes no_lane
    c.in-Some.cpu (sym c.dropped_at.ensures ∙ c.in-Some.is) in
    let low : c.in-Some.cpu < 256 = c.requires.in_reach.dropped c.in-Some.cpu at.1 in
    omega arith

pub overflow_cast-result-in-Some-inbox_of : goal.overflow_cast-result-in-Some-inbox_of
overflow_cast-result-in-Some-inbox_of c =
    let at = position-passes (λ inbox. is_in c.args.id inbox) c.args.self.now.inboxes []
    c.in-Some-inbox_of.app (sym c.inbox_of.ensures ∙ c.in-Some-inbox_of.is) in
    let low : c.in-Some-inbox_of.app < 256 =
    c.requires.in_reach.inbox c.in-Some-inbox_of.app at.1 in
    omega arith

pub overflow_cast-result-in-Some-pulled_at : goal.overflow_cast-result-in-Some-pulled_at
overflow_cast-result-in-Some-pulled_at c =
    let cpu = c.in-Some-pulled_at.cpu in
    let at = position-passes (λ lane. is_among lane.pulled c.args.id lane.accepted)
    c.args.self.now.lanes no_lane cpu (sym c.pulled_at.ensures ∙ c.in-Some-pulled_at.is) in
    let low : c.in-Some-pulled_at.cpu < 256 = c.requires.in_reach.accepted cpu
    (is_in-among _ c.args.id _ at.1) in
    omega arith

pub overflow_cast-result-in-Some-accepted_at : goal.overflow_cast-result-in-Some-accepted_at
overflow_cast-result-in-Some-accepted_at c =
    let at = position-passes (λ lane. is_in c.args.id lane.accepted) c.args.self.now.lanes no_lane
    c.in-Some-accepted_at.cpu (sym c.accepted_at.ensures ∙ c.in-Some-accepted_at.is) in
    let low : c.in-Some-accepted_at.cpu < 256 =
    c.requires.in_reach.accepted c.in-Some-accepted_at.cpu at.1 in
    omega arith
