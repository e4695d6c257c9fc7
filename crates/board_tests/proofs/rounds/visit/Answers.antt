use Rattle.std.proofs.Common.{sym}
use Rattle.hop_rule.specs.Gates.{inside}
use Rattle.board_tests.proofs.rounds.Calls.{by_number, has_left, has_seen, refused}
use Rattle.board_tests.specs.Stands.{no_hand}
use Rattle.board_tests.proofs.rounds.visit.Goals as goal

pub returns-in-Closed : goal.returns-in-Closed
returns-in-Closed g c =
    refused (g.B.Board.view c.args.board.now) c.args.seat.now.number no_hand c.args.seat.now
    c.enter.new.seat c.in-Closed.word c.requires.stands c.in-Closed.ensures.step

pub offer-answer-requires-clause-stands : goal.offer-answer-requires-clause-stands
offer-answer-requires-clause-stands g c =
    let board = g.B.Board.view c.args.board.now in
    let seat = c.weigh-head.new.seat in
    let seen =
    has_seen board c.args.seat.now c.enter.new.seat c.setting-setting.new.seat seat
    c.setting-setting.result c.args.lane c.weigh-head.result c.requires.stands c.in-Ok.ensures.step
    c.setting-setting.ensures c.weigh-head.ensures in
    by_number board c.args.seat.now.number seat.number inside 0 no_hand seat (sym seen.number_is)
    seen

pub returns : goal.returns
returns g c =
    let board = g.B.Board.view c.args.board.now in
    let number = c.args.seat.now.number in
    let seat = c.weigh-head.new.seat in
    let after = c.offer-answer.new.seat in
    let seen =
    has_seen board c.args.seat.now c.enter.new.seat c.setting-setting.new.seat seat
    c.setting-setting.result c.args.lane c.weigh-head.result c.requires.stands c.in-Ok.ensures.step
    c.setting-setting.ensures c.weigh-head.ensures in
    has_left board number no_hand after c.leave.new.seat
    (by_number board seat.number number inside 0 no_hand after seen.number_is
    c.offer-answer.ensures)
    c.leave.ensures
