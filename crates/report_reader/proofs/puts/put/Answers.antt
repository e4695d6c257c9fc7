use Rattle.std.proofs.Common.{sym, ◌∙◌}
use Rattle.std.proofs.lemmas.Slice.Eq.{bytes_eq-Decides}
use Rattle.report_reader.proofs.PutsLemmas.{put-drop, put-none}
use Rattle.report_reader.proofs.puts.put.Goals as goal

pub returns-then-eq : goal.returns-then-eq
returns-then-eq c = λ o s. put-none c.args.fields.now o s (sym c.at-first.ensures
    ∙ (bytes_eq-Decides c.at-first.result.now _).0 (sym c.eq.ensures ∙ c.if-eq.true)
    ∙ c.as_slice.ensures)

pub returns-then-eq-2 : goal.returns-then-eq-2
returns-then-eq-2 c = λ o s. put-drop c.args.fields.now o _ _ _ _ s
    (sym c.at-first.ensures ∙ (bytes_eq-Decides c.at-first.result.now _).0 (sym c.eq-2.ensures
    ∙ c.if-eq-2.true) ∙ c.as_slice-2.ensures)
    (λ m f e. c.word.ensures m f e)
    (λ m f e. c.word-then-eq-2.ensures m f e)
    (λ m f e. c.word-then-eq-2-2.ensures m f e) c.cause.ensures
