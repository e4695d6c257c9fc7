use Rattle.steer_model.proofs.Good.NoCommand.{clauses_good, good_clauses}
use Rattle.steer_model.proofs.laws.a_history_is_good_by_its_clauses.Goals as goal

pub returns : goal.returns
returns c = λ i h none. (good_clauses i h none, clauses_good i h)
