use Rattle.board_api.specs.Laws.Heads.{NumberedReadsAreSettings, ReadsAreSettings}
use Rattle.board_api.specs.Laws.Heads.{VisitNumbersRise}
use Rattle.board_api.proofs.Endings.{at_closings}
use Rattle.board_api.proofs.OwnVisits.{numbered_reads_are_settings, reads_are_settings}
use Rattle.board_api.proofs.OwnVisits.{visit_numbers_rise}
use Rattle.board_api.proofs.laws.visits_read_the_closers_settings.Goals as goal

pub returns-clause-numbers : goal.returns-clause-numbers
returns-clause-numbers c = at_closings VisitNumbersRise visit_numbers_rise

pub returns-clause-settings : goal.returns-clause-settings
returns-clause-settings c = at_closings ReadsAreSettings reads_are_settings

pub returns-clause-alike : goal.returns-clause-alike
returns-clause-alike c = at_closings NumberedReadsAreSettings numbered_reads_are_settings
