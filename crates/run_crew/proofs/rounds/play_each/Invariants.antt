use Rattle.run_crew.proofs.Names.{stage_view, GoOn}
use Rattle.run_crew.proofs.rounds.play_each.Given as goal

abbrev pub invariant-loop-i : goal.invariant-loop-i
invariant-loop-i g l =
    GoOn (stage_view (g.B.Board.view l.fn.stage.rx) (g.B.Board.view l.fn.stage.tx)
    l.fn.stage.shared l.fn.stage.late.items) l.fn.crew l.crew
