use Rattle.run_workers.proofs.Records.ListLemmas.{others_stay}
use Rattle.run_workers.proofs.Records.PollingLemmas.{pollers_go_on, pollers_stay}
use Rattle.run_workers.proofs.record_laws.pollers_keep_their_turns.Goals as goal

pub returns-clause-on : goal.returns-clause-on
returns-clause-on c = pollers_go_on

pub returns-clause-stay : goal.returns-clause-stay
returns-clause-stay c = pollers_stay

pub returns-clause-others : goal.returns-clause-others
returns-clause-others c = others_stay

pub returns-clause-other_marks : goal.returns-clause-other_marks
returns-clause-other_marks c = others_stay

pub returns-clause-other_notes : goal.returns-clause-other_notes
returns-clause-other_notes c = others_stay
