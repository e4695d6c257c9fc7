use Rattle.hop_rule.specs.declared.step.GateStep.TheVariants.{Left}
use Rattle.hop_board.proofs.Names.{Gate}
use Rattle.hop_board.proofs.board.Board.step_out.Given as goal

abbrev pub ghosts-sub_as : goal.ghosts-sub_as
ghosts-sub_as a = record { makes = λ n. Gate Left; says = λ n. Unit {0} }
