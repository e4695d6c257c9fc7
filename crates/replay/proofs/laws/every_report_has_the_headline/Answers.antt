use Rattle.replay.proofs.HeadlineLemmas.{report_has_headline}
use Rattle.replay.proofs.laws.every_report_has_the_headline.Goals as goal

pub returns : goal.returns
returns c = report_has_headline c.a_report_has_the_headline.ensures c.packets_are_of_flows.ensures
