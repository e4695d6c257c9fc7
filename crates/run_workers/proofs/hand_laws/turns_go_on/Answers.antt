use Rattle.run_workers.proofs.Hands.ServerLaws.{applications_explain}
use Rattle.run_workers.proofs.Hands.VisitLemmas.{serves_explain, visits_explain}
use Rattle.run_workers.proofs.hand_laws.turns_go_on.Goals as goal

pub returns-clause-serves : goal.returns-clause-serves
returns-clause-serves c = serves_explain

pub returns-clause-visits : goal.returns-clause-visits
returns-clause-visits c = visits_explain

pub returns-clause-applications : goal.returns-clause-applications
returns-clause-applications c = applications_explain
