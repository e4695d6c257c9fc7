use Rattle.hand_tests.proofs.hands.Resting.{back_rests, kind_holds, missed_rests}
use Rattle.hand_tests.proofs.hands.drain_beside.Goals as goal

pub give_back-requires-clause-held : goal.give_back-requires-clause-held
give_back-requires-clause-held c =
    kind_holds c.args.board.now.sizes c.try_hold.new.seat.steps c.args.lane c.in-Ok.held
    c.in-Ok.ensures.1

pub returns-in-Ok-clause-other : goal.returns-in-Ok-clause-other
returns-in-Ok-clause-other c =
    back_rests c.args.board.now c.args.other.now.number c.args.other.now c.try_hold.new.seat
    c.give_back.new.seat c.args.lane c.in-Ok.held c.requires.other c.in-Ok.ensures.0
    c.give_back.ensures

pub returns-in-Held-clause-other : goal.returns-in-Held-clause-other
returns-in-Held-clause-other c =
    missed_rests c.args.board.now c.args.other.now.number c.args.other.now c.try_hold.new.seat
    c.try_hold.new.seat c.args.lane c.in-Held.word c.requires.other c.in-Held.ensures.1
