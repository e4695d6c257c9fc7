use Rattle.std.proofs.Common.{◌≡◌, ◌<◌, sym, ◌∙◌, ap, arith, get_or, length}
use Rattle.std.proofs.lemmas.List.{get_or_default}
use Rattle.history.specs.Lists.{arrival_of, no_arrival}
use Rattle.history.proofs.RegularLemmas.{arrival-at}
use Rattle.history_check.proofs.item_test.ItemTest.is_from_queue.Goals as goal

pub returns-then-at-len : goal.returns-then-at-len
returns-then-at-len c =
    let h = c.args.self.now.h.now in
    let x = c.args.sent.now.id in
    let here : x < length h.arrivals = grind arith in
    let arrival : c.get.result.now ≡ arrival_of h.arrivals x =
    c.get.ensures ∙ ap (λ s. get_or h.arrivals s.id c.get.result.now) c.sent.view_is
    ∙ get_or_default h.arrivals x c.get.result.now no_arrival here
    ∙ sym (arrival-at x h.arrivals c.args.self.now.are_numbered here) in
    grind arith
