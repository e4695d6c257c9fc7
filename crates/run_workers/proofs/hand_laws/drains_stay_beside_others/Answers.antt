use Rattle.run_workers.proofs.Hands.DrainLemmas.{serves_leave, stays_drain}
use Rattle.run_workers.proofs.Hands.ServerLaws.{applications_leave_drains}
use Rattle.run_workers.proofs.Hands.VisitLemmas.{polls_leave}
use Rattle.run_workers.proofs.hand_laws.drains_stay_beside_others.Goals as goal

pub returns-clause-steps : goal.returns-clause-steps
returns-clause-steps c = stays_drain

pub returns-clause-serves : goal.returns-clause-serves
returns-clause-serves c = serves_leave

pub returns-clause-polls : goal.returns-clause-polls
returns-clause-polls c = polls_leave

pub returns-clause-applications : goal.returns-clause-applications
returns-clause-applications c = applications_leave_drains
