use Rattle.report_verdict.proofs.VerdictLemmas.{good_report, said_good}
use Rattle.report_verdict.proofs.laws.good_is_said_of_good_histories.Goals as goal

pub returns-clause-good : goal.returns-clause-good
returns-clause-good c = good_report c.a_history_is_good_by_its_clauses.ensures

pub returns-clause-said : goal.returns-clause-said
returns-clause-said c = said_good c.a_history_is_good_by_its_clauses.ensures
