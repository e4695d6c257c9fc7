use Rattle.hop_rule.specs.Gates.{outside}
use Rattle.board_api.specs.declared.held_lane.LaneId.TheVariants as id
use Rattle.board_tests.proofs.rounds.Calls.{given_back, missed}
use Rattle.board_tests.specs.Stands.{no_hand}
use Rattle.board_tests.proofs.rounds.read.Goals as goal

pub returns-in-Held : goal.returns-in-Held
returns-in-Held g c =
    missed (g.B.Board.view c.args.board.now) c.args.seat.now.number no_hand c.args.seat.now
    c.try_hold.new.seat outside (id.Out c.args.out) c.in-Held.word c.requires.stands
    c.in-Held.ensures.1

pub returns : goal.returns
returns g c =
    given_back (g.B.Board.view c.args.board.now) c.args.seat.now.number outside c.args.seat.now
    c.try_hold.new.seat c.read_out.new.seat no_hand (id.Out c.args.out) c.in-Ok.held
    c.requires.stands c.in-Ok.ensures.0 c.read_out.ensures.step
