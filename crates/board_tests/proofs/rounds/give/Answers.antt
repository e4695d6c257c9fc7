use Rattle.hop_rule.specs.Gates.{outside}
use Rattle.hop_rule.specs.Lanes.{has_pulled}
use Rattle.board_api.specs.declared.held_lane.LaneId.TheVariants as id
use Rattle.board_tests.proofs.rounds.Calls.{delivered, given_back, missed, pulled_here}
use Rattle.board_tests.proofs.rounds.Calls.{took_keeps}
use Rattle.board_tests.specs.Stands.{hand_of}
use Rattle.board_tests.proofs.rounds.give.Goals as goal

pub returns-in-Held : goal.returns-in-Held
returns-in-Held g c =
    missed (g.B.Board.view c.args.board.now) c.args.seat.now.number
    (hand_of c.args.lane (has_pulled c.args.id)) c.args.seat.now c.try_hold.new.seat outside
    (id.Out c.args.out) c.in-Held.word c.requires.stands c.in-Held.ensures.1

pub returns-then-room-eq0 : goal.returns-then-room-eq0
returns-then-room-eq0 g c =
    given_back (g.B.Board.view c.args.board.now) c.args.seat.now.number outside c.args.seat.now
    c.try_hold.new.seat c.give_back.new.seat (hand_of c.args.lane (has_pulled c.args.id))
    (id.Out c.args.out) c.in-Ok.held c.requires.stands c.in-Ok.ensures.0 c.give_back.ensures

pub deliver-requires-clause-pulled : goal.deliver-requires-clause-pulled
deliver-requires-clause-pulled g c =
    let board = g.B.Board.view c.args.board.now in
    pulled_here board c.args.seat.now.number outside c.args.lane c.args.id c.args.seat.now
    c.try_hold.new.seat c.requires.stands
    (took_keeps board.sizes c.args.seat.now c.try_hold.new.seat (id.Out c.args.out) c.in-Ok.held
    c.in-Ok.ensures.0)

pub returns : goal.returns
returns g c =
    delivered (g.B.Board.view c.args.board.now) c.args.seat.now.number outside c.args.seat.now
    c.try_hold.new.seat c.deliver.new.seat c.args.lane c.args.out c.deliver.result
    (has_pulled c.args.id) c.in-Ok.held c.requires.stands c.in-Ok.ensures.0 c.deliver.ensures
