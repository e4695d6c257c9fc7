use Rattle.run_controller.proofs.Names.{stage}
use Rattle.run_controller.proofs.WaitLemmas.{Waits}
use Rattle.run_controller.proofs.controller.Controller.give.Given as goal

abbrev pub invariant-loop : goal.invariant-loop
invariant-loop g l =
    Waits (stage l.shared (g.B.Board.view l.rx) (g.B.Board.view l.tx)) l.command l.counter l.fn.self
    l.self l.fn.seats l.seats
