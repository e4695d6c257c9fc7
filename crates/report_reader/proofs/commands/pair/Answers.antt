use Rattle.std.proofs.Common.{rules, sym, ◌∙◌}
use Rattle.std.proofs.lemmas.Slice.Eq.{bytes_eq-Decides}
use Rattle.report_reader.proofs.MembersLemmas.{mask-is, queues-are}
use Rattle.report_reader.proofs.PairsLemmas.{pair-mask, pair-xcpus, pair-xqueues}
use Rattle.report_reader.proofs.commands.pair.Goals as goal

pub returns-then-eq : goal.returns-then-eq
returns-then-eq c = λ k s p.
    pair-mask c.args.fields.now _ (λ n f e. c.byte-first.ensures n f e) k _ s
    (sym c.at-kind.ensures
    ∙ (bytes_eq-Decides c.at-kind.result.now _).0 (sym c.eq.ensures ∙ c.if-eq.true)
    ∙ c.as_slice.ensures)
    (λ m f e. mask-is _ m _ (search rules) f (c.at.ensures ∙ e) c.members.ensures)

pub returns-then-eq-3 : goal.returns-then-eq-3
returns-then-eq-3 c = λ k s p.
    pair-xcpus c.args.fields.now _ (λ n f e. c.byte-first.ensures n f e) k _ s
    (sym c.at-kind.ensures
    ∙ (bytes_eq-Decides c.at-kind.result.now _).0 (sym c.eq-3.ensures ∙ c.if-eq-3.true)
    ∙ c.as_slice-3.ensures)
    (λ m f e. mask-is _ m _ (search rules) f (c.at-then-eq-3.ensures ∙ e)
    c.members-then-eq-3.ensures)

pub returns-then-eq-4 : goal.returns-then-eq-4
returns-then-eq-4 c = λ k s p.
    pair-xqueues c.args.fields.now _ (λ n f e. c.byte-first.ensures n f e) k _ s
    (sym c.at-kind.ensures
    ∙ (bytes_eq-Decides c.at-kind.result.now _).0 (sym c.eq-4.ensures ∙ c.if-eq-4.true)
    ∙ c.as_slice-4.ensures)
    (λ m f e. queues-are _ m _ (search rules) f (c.at-then-eq-4.ensures ∙ e)
    c.members-then-eq-4.ensures)
