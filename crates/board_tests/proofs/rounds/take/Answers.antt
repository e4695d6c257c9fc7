use Rattle.hop_rule.specs.Gates.{outside}
use Rattle.board_api.specs.declared.held_lane.LaneId.TheVariants as id
use Rattle.board_tests.proofs.rounds.Calls.{missed, pulled_none, pulled_one, took_none}
use Rattle.board_tests.specs.Stands.{no_hand}
use Rattle.board_tests.proofs.rounds.take.Goals as goal

pub returns-in-Held : goal.returns-in-Held
returns-in-Held g c =
    missed (g.B.Board.view c.args.board.now) c.args.seat.now.number no_hand c.args.seat.now
    c.try_hold.new.seat outside (id.Middle c.args.lane) c.in-Held.word c.requires.stands
    c.in-Held.ensures.1

pub pull-requires-clause-idle : goal.pull-requires-clause-idle
pull-requires-clause-idle g c =
    took_none (g.B.Board.view c.args.board.now).sizes c.args.seat.now c.try_hold.new.seat
    c.args.lane c.in-Ok.held c.in-Ok.ensures.0 c.requires.stands.hands

pub returns-in-Took : goal.returns-in-Took
returns-in-Took g c =
    pulled_one (g.B.Board.view c.args.board.now) c.args.seat.now.number outside c.args.seat.now
    c.try_hold.new.seat c.pull.new.seat c.args.lane c.in-Took.id c.in-Ok.held c.requires.stands
    c.in-Ok.ensures.0 c.in-Took.ensures

pub returns-in-Empty : goal.returns-in-Empty
returns-in-Empty g c =
    pulled_none (g.B.Board.view c.args.board.now) c.args.seat.now.number outside c.args.seat.now
    c.try_hold.new.seat c.pull.new.seat c.args.lane c.in-Ok.held c.requires.stands
    c.in-Ok.ensures.0 c.in-Empty.ensures
