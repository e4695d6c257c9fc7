use Rattle.dev_flow_table.proofs.MovesLemmas.{choice_is_recorded, has_its_reason, moves_by_three}
use Rattle.dev_flow_table.proofs.laws.a_class_moves_by_three_conditions.Goals as goal

pub returns-clause-moves : goal.returns-clause-moves
returns-clause-moves c = moves_by_three

pub returns-clause-reason : goal.returns-clause-reason
returns-clause-reason c = has_its_reason

pub returns-clause-recorded : goal.returns-clause-recorded
returns-clause-recorded c = choice_is_recorded
