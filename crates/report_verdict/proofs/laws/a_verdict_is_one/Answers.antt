use Rattle.report_verdict.proofs.VerdictLemmas.{one_verdict}
use Rattle.report_verdict.proofs.laws.a_verdict_is_one.Goals as goal

pub returns : goal.returns
returns c = one_verdict c.a_report_has_one_history.ensures
