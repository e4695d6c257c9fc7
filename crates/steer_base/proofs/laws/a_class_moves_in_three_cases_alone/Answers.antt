use Rattle.steer_base.proofs.RuleLemmas.{moves-by}
use Rattle.steer_base.proofs.laws.a_class_moves_in_three_cases_alone.Goals as goal

pub returns : goal.returns
returns c = moves-by
