use Rattle.run_crew.proofs.RoundLemmas.{crews_learn_arrivals}
use Rattle.run_crew.proofs.laws.crews_learn_arrivals.Goals as goal

pub returns : goal.returns
returns c = crews_learn_arrivals c.arrivals_become_known.ensures
