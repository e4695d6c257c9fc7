use Rattle.replay.proofs.HeadlineLemmas.{run_has_headline}
use Rattle.replay.proofs.laws.every_run_has_the_headline.Goals as goal

pub returns : goal.returns
returns c = run_has_headline c.a_run_report_has_the_headline.ensures
