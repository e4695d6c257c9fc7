use Rattle.std.proofs.Common.{sym, ◌∙◌, arith}
use Rattle.std.proofs.lemmas.Slice.Eq.{bytes_eq-Decides}
use Rattle.report_reader.proofs.ValuesLemmas.{none-option}
use Rattle.report_reader.proofs.fields.Fields.maybe_word.Goals as goal

pub returns-then-eq : goal.returns-then-eq
returns-then-eq c = λ o f e.
    none-option o c.at.result.now 32 (omega arith) (c.at.ensures ∙ e)
    ((bytes_eq-Decides c.at.result.now _).0 (sym c.eq.ensures ∙ c.if-eq.true)
    ∙ c.as_slice.ensures) f
