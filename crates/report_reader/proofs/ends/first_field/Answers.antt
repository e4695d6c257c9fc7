use Rattle.report_reader.proofs.StepsLemmas.{first-field}
use Rattle.report_reader.proofs.ends.first_field.Goals as goal

pub returns : goal.returns
returns c = λ word fields rest g. first-field _ _ _ word fields rest c.field_end-end.ensures.end g
