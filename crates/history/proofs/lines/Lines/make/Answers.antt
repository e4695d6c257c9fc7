use Rattle.std.proofs.Common.{◌∙◌, ap, arith, length}
use Rattle.std.specs.Option.{is_some}
use Rattle.std.proofs.lemmas.List.FromFn.{get_or-map-range_with_len}
use Rattle.history.specs.Lines.{packet_line}
use Rattle.history.specs.Lists.{arrivals_at}
use Rattle.history.proofs.BoundLemmas.{short-lists}
use Rattle.history.proofs.ReplyLemmas.{is_some-reply, reply-at}
use Rattle.history.proofs.lines.Lines.make.Goals as goal

pub make-requires : goal.make-requires
make-requires c = short-lists c.args.packets.now c.args.apps c.args.h.now c.requires.regular
    c.requires.few

pub returns-clause-packet : goal.returns-clause-packet
returns-clause-packet c x d l =
    get_or-map-range_with_len (packet_line c.args.packets.now c.args.apps c.args.h.now) 0
    (length c.args.h.now.arrivals) x x d l (omega arith)

pub returns-clause-reply : goal.returns-clause-reply
returns-clause-reply c x =
    reply-at c.args.packets.now c.args.apps c.args.h.now c.requires.regular x

pub returns-clause-begun : goal.returns-clause-begun
returns-clause-begun c x =
    ap is_some (reply-at c.args.packets.now c.args.apps c.args.h.now c.requires.regular x)
    ∙ is_some-reply c.args.packets.now c.args.apps c.args.h.now x

pub returns-clause-arrived : goal.returns-clause-arrived
returns-clause-arrived c q l =
    get_or-map-range_with_len (λ p. length (arrivals_at c.args.h.now.arrivals p)) 0
    (length c.args.h.now.taken) q q 0 l (omega arith)
