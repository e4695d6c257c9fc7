use Rattle.hop_core.proofs.Gate.{closed_is_exact, inside_is_exact}
use Rattle.hop_core.proofs.GateSteps.{nobody_weighs}
use Rattle.hop_core.proofs.laws.the_gate_answers_exactly.Goals as goal

pub returns-clause-inside : goal.returns-clause-inside
returns-clause-inside c = inside_is_exact

pub returns-clause-closed : goal.returns-clause-closed
returns-clause-closed c = closed_is_exact

pub returns-clause-outside : goal.returns-clause-outside
returns-clause-outside c = λ s h alone p. nobody_weighs s h alone p
