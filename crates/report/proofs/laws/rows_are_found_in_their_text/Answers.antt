use Rattle.report.proofs.Cuts.{same_rows}
use Rattle.report.proofs.laws.rows_are_found_in_their_text.Goals as goal

pub returns : goal.returns
returns c = same_rows
