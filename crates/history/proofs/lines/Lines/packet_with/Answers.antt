use Rattle.std.proofs.Common.{sym, ◌∙◌, ap, arith, get_or, length}
use Rattle.std.proofs.lemmas.List.FromFn.{get_or-map-range_with_len}
use Rattle.history.specs.Counted.{rank_of}
use Rattle.history.specs.Lines.{packet_line}
use Rattle.history.proofs.LinesLemmas.{arrived-line, lane-on}
use Rattle.history.proofs.lines.Lines.packet_with.Goals as goal

pub packet_line-requires-clause-rank : goal.packet_line-requires-clause-rank
packet_line-requires-clause-rank c =
    let l = c.self.inside in
    let h = l.history.now in
    let x = c.args.id in
    let rank = c.index-rank.result.now in
    let here = arrived-line l.packets.now l.apps x h _ c.self.view_is c.requires.arrived in
    c.index-rank.ensures ∙ ap (λ i. get_or l.counted.ranks.items i rank) c.id.view_is
    ∙ ap (λ ranks. get_or ranks x rank) c.self.invariant.counted.ranks
    ∙ get_or-map-range_with_len (rank_of h) 0 (length h.arrivals) x x rank here (omega arith)

pub packet_line-requires-clause-lane : goal.packet_line-requires-clause-lane
packet_line-requires-clause-lane c =
    let l = c.self.inside in
    let h = l.history.now in
    let x = c.args.id in
    let here = arrived-line l.packets.now l.apps x h _ c.self.view_is c.requires.arrived in
    c.requires.lane ∙ lane-on l.packets.now l.apps x h _ c.self.view_is here

pub returns : goal.returns
returns c =
    let l = c.self.inside in
    let h = l.history.now in
    let line = packet_line l.packets.now l.apps h in
    let x = c.args.id in
    let r = c.packet_line.result in
    let here = arrived-line l.packets.now l.apps x h _ c.self.view_is c.requires.arrived in
    c.packet_line.ensures
    ∙ sym (get_or-map-range_with_len line 0 (length h.arrivals) x x r here (omega arith))
    ∙ ap (λ lines. get_or lines.packets x r) c.self.view_is
