use Rattle.report.proofs.ReportRows.{has_rows}
use Rattle.report.proofs.laws.a_report_has_rows.Goals as goal

pub returns : goal.returns
returns c = has_rows
