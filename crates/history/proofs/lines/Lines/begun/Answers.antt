use Rattle.std.proofs.Common.{sym, ◌∙◌, ap, None, get_or}
use Rattle.std.specs.Option.{option_map}
use Rattle.history.specs.InOrder.{begun_of}
use Rattle.history.proofs.ReplyLemmas.{reply-at}
use Rattle.history.proofs.lines.Lines.begun.Goals as goal

pub returns : goal.returns
returns c =
    let l = c.self.inside in
    let x = c.args.id in
    c.begun_reply.ensures
    ∙ ap (option_map begun_of)
    (sym (reply-at l.packets.now l.apps l.history.now c.self.invariant.regular x)
    ∙ ap (λ lines. get_or lines.replies x None) c.self.view_is)
