use Rattle.std.proofs.Common.{◌∙◌, ap}
use Rattle.board_api.specs.declared.answers.Emptied.TheVariants as emptied
use Rattle.board_tests.proofs.rounds.Calls.{has_looked, has_set, opened-looking}
use Rattle.board_tests.specs.Stands.{no_hand, opened_by}
use Rattle.board_tests.proofs.closer.change_behind.Goals as goal

pub returns-in-NotEmpty-clause-stands : goal.returns-in-NotEmpty-clause-stands
returns-in-NotEmpty-clause-stands g c =
    has_looked (g.B.Board.view c.args.board.now) c.args.seat.now.number no_hand c.args.seat.now
    c.emptied.new.seat c.args.lanes
    (emptied.NotEmpty c.in-NotEmpty.lane c.in-NotEmpty.head c.in-NotEmpty.tail)
    c.requires.stands c.in-NotEmpty.ensures

pub returns-in-NotEmpty-clause-few : goal.returns-in-NotEmpty-clause-few
returns-in-NotEmpty-clause-few g c =
    opened-looking (g.B.Board.view c.args.board.now).sizes c.args.lanes
    (emptied.NotEmpty c.in-NotEmpty.lane c.in-NotEmpty.head c.in-NotEmpty.tail)
    c.args.seat.now c.emptied.new.seat c.in-NotEmpty.ensures

pub set-requires-clause-closed : goal.set-requires-clause-closed
set-requires-clause-closed g c =
    (has_looked (g.B.Board.view c.args.board.now) c.args.seat.now.number no_hand
    c.args.seat.now c.emptied.new.seat c.args.lanes emptied.Ok c.requires.stands
    c.in-Ok.ensures).gate_is

pub returns-clause-stands : goal.returns-clause-stands
returns-clause-stands g c =
    let board = g.B.Board.view c.args.board.now in
    let number = c.args.seat.now.number in
    has_set board number no_hand c.emptied.new.seat c.set.new.seat 0 c.args.value
    (has_looked board number no_hand c.args.seat.now c.emptied.new.seat c.args.lanes emptied.Ok
    c.requires.stands c.in-Ok.ensures)
    c.set.ensures

pub returns-clause-few : goal.returns-clause-few
returns-clause-few g c =
    ap opened_by c.set.ensures
    ∙ opened-looking (g.B.Board.view c.args.board.now).sizes c.args.lanes emptied.Ok
    c.args.seat.now c.emptied.new.seat c.in-Ok.ensures
