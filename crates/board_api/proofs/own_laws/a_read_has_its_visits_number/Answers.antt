use Rattle.board_api.proofs.NumberedSteps.{numbered_reads_stay, reads_are_numbered}
use Rattle.board_api.proofs.own_laws.a_read_has_its_visits_number.Goals as goal

pub returns-clause-read : goal.returns-clause-read
returns-clause-read c = reads_are_numbered

pub returns-clause-stays : goal.returns-clause-stays
returns-clause-stays c = numbered_reads_stay
