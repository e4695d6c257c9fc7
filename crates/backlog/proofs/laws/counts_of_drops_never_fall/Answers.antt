use Rattle.backlog.proofs.RisingLemmas.{AreRising-put, AreRising-take}
use Rattle.backlog.proofs.laws.counts_of_drops_never_fall.Goals as goal

pub returns-clause-put : goal.returns-clause-put
returns-clause-put c = λ l id hash h. AreRising-put l id hash h

pub returns-clause-take : goal.returns-clause-take
returns-clause-take c = λ l h. AreRising-take l h
