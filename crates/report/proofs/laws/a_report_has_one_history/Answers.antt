use Rattle.report.proofs.OneHistory.{one_history}
use Rattle.report.proofs.laws.a_report_has_one_history.Goals as goal

pub returns : goal.returns
returns c = one_history c.histories_are_found_again.ensures c.lines_fit.ensures
