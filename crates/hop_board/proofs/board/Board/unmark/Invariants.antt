use Rattle.hop_rule.specs.Gates.{openings}
use Rattle.hop_rule.specs.declared.step.GateStep.TheVariants.{Opened}
use Rattle.hop_board.proofs.Names.{◌<◌, gate_steps, Gate}
use Rattle.hop_board.proofs.board.Board.unmark.Given as goal
use Rattle.hop_rule.specs.declared.sizes.TheConstants.{MAX_OPENINGS}

abbrev pub ghosts-add_as : goal.ghosts-add_as
ghosts-add_as a =
    record {
      makes = λ n. Gate Opened;
      says = λ n. openings
          (gate_steps a.seat.now.steps) < MAX_OPENINGS;
    }
