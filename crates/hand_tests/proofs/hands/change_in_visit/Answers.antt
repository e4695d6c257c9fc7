use Rattle.hand_tests.proofs.hands.Resting.{visit_rests}
use Rattle.hand_tests.proofs.hands.change_in_visit.Goals as goal

pub returns-clause-visitor : goal.returns-clause-visitor
returns-clause-visitor g c =
    visit_rests c.args.board.now 2 c.args.visitor.now c.enter.new.seat c.leave.new.seat
    c.in-Ok.ensures.step.0 c.requires.visitor c.in-Ok.ensures.step.2 c.leave.ensures
