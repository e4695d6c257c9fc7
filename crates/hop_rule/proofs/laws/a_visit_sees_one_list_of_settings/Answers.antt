use Rattle.hop_rule.proofs.Openings.{no_set_while_inside, settings_are_the_closers}
use Rattle.hop_rule.proofs.Openings.{visits_are_numbered, visits_read_settings}
use Rattle.hop_rule.proofs.Openings.{visits_show_settings}
use Rattle.hop_rule.proofs.laws.a_visit_sees_one_list_of_settings.Goals as goal

pub returns-clause-closers : goal.returns-clause-closers
returns-clause-closers c = settings_are_the_closers

pub returns-clause-inside : goal.returns-clause-inside
returns-clause-inside c = no_set_while_inside

pub returns-clause-numbers : goal.returns-clause-numbers
returns-clause-numbers c = visits_are_numbered

pub returns-clause-shows : goal.returns-clause-shows
returns-clause-shows c = visits_show_settings

pub returns-clause-reads : goal.returns-clause-reads
returns-clause-reads c = visits_read_settings
