use Rattle.std.proofs.Common.{◌≡◌, sym, ◌∙◌, ap, arith, get_or, length}
use Rattle.std.specs.Prelude.{slice_get}
use Rattle.std.specs.Option.{option_map}
use Rattle.std.proofs.lemmas.List.{get_or_default}
use Rattle.std.proofs.lemmas.List.FromFn.{get_or-map-range_with_len}
use Rattle.history.specs.Counted.{rank_of}
use Rattle.history.specs.Lines.{choice_of}
use Rattle.history.specs.Lists.{arrival_of, list_at, no_arrival}
use Rattle.history.proofs.LinesLemmas.{arrived-line, lane-on}
use Rattle.history.proofs.RegularLemmas.{arrival-at}
use Rattle.history.proofs.SlotLemmas.{choice-at}
use Rattle.history.proofs.lines.Lines.lane.Goals as goal

pub returns : goal.returns
returns c =
    let l = c.self.inside in
    let h = l.history.now in
    let x = c.args.id in
    let regular = c.self.invariant.regular in
    let here = arrived-line l.packets.now l.apps x h _ c.self.view_is c.requires in
    let rank = c.index-rank.result.now in
    let ranked : rank ≡ rank_of h x =
    c.index-rank.ensures ∙ ap (λ i. get_or l.counted.ranks.items i rank) c.id.view_is
    ∙ ap (λ ranks. get_or ranks x rank) c.self.invariant.counted.ranks
    ∙ get_or-map-range_with_len (rank_of h) 0 (length h.arrivals) x x rank here (omega arith) in
    let arrival : c.get.result.now ≡ arrival_of h.arrivals x =
    c.get.ensures ∙ ap (λ i. get_or h.arrivals i c.get.result.now) c.id.view_is
    ∙ get_or_default h.arrivals x c.get.result.now no_arrival here
    ∙ sym (arrival-at x h.arrivals regular.arrived.numbered here) in
    let choice : c.choice_at.result ≡ choice_of h x = c.choice_at.ensures
    ∙ ap (λ q. option_map (λ d. d.choice) (slice_get (list_at h.choices q) rank))
    (c.queue.view_is ∙ ap (λ a. a.queue) arrival)
    ∙ ap (λ r. option_map (λ d. d.choice)
    (slice_get (list_at h.choices (arrival_of h.arrivals x).queue) r)) ranked
    ∙ sym (choice-at l.packets.now l.apps h regular x here) in
    c.lane_of.ensures ∙ ap (option_map (λ d. d.lane)) choice
    ∙ sym (lane-on l.packets.now l.apps x h _ c.self.view_is here)
