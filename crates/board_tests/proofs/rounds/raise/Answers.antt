use Rattle.hop_rule.specs.Gates.{outside}
use Rattle.hop_rule.specs.Lanes.{gave}
use Rattle.board_tests.proofs.rounds.Calls.{raised}
use Rattle.board_tests.proofs.rounds.raise.Goals as goal

pub returns : goal.returns
returns g c =
    raised (g.B.Board.view c.args.board.now) c.args.seat.now.number outside c.args.lane gave
    c.args.seat.now c.retire.new.seat c.requires.stands c.retire.ensures
