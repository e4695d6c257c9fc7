use Rattle.hop_rule.specs.Gates.{inside}
use Rattle.board_api.specs.declared.held_lane.LaneId.TheVariants as id
use Rattle.board_tests.proofs.rounds.Calls.{given_back, has_put, missed}
use Rattle.board_tests.specs.Stands.{no_hand}
use Rattle.board_tests.proofs.rounds.offer.Goals as goal
use Rattle.std.proofs.Common.{None}

pub returns-in-Held : goal.returns-in-Held
returns-in-Held g c =
    missed (g.B.Board.view c.args.board.now) c.args.seat.now.number no_hand c.args.seat.now
    c.try_hold.new.seat inside (id.Middle c.args.lane) c.in-Held.word c.requires.stands
    c.in-Held.ensures.1

pub returns-then-room-eq0 : goal.returns-then-room-eq0
returns-then-room-eq0 g c =
    given_back (g.B.Board.view c.args.board.now) c.args.seat.now.number inside c.args.seat.now
    c.try_hold.new.seat c.give_back.new.seat no_hand (id.Middle c.args.lane) c.in-Ok.held
    c.requires.stands c.in-Ok.ensures.0 c.give_back.ensures

pub returns : goal.returns
returns g c =
    has_put (g.B.Board.view c.args.board.now) c.args.seat.now.number inside c.args.seat.now
    c.try_hold.new.seat c.put.new.seat no_hand c.args.lane c.args.id None c.put.result
    c.in-Ok.held c.requires.stands c.in-Ok.ensures.0 c.put.ensures
