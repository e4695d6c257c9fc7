use Rattle.run_controller.proofs.Names.{stage}
use Rattle.run_controller.proofs.RoomLemmas.{Ran}
use Rattle.run_controller.proofs.controller.Controller.run.Given as goal

abbrev pub invariant-loop-command : goal.invariant-loop-command
invariant-loop-command g l =
    Ran (stage l.shared (g.B.Board.view l.rx) (g.B.Board.view l.tx)) l.plan l.commands
    l.command-index l.self l.fn.seats l.seats
