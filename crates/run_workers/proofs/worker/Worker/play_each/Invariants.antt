use Rattle.run_workers.specs.Turns.{CallsFirst, OthersStay}
use Rattle.run_workers.proofs.Names.{stage_view, Plays, actors, GoesOn}
use Rattle.run_workers.proofs.worker.Worker.play_each.Given as goal

abbrev pub invariant-loop-i : goal.invariant-loop-i
invariant-loop-i g l =
    GoesOn (stage_view (g.B.Board.view l.fn.stage.rx) (g.B.Board.view l.fn.stage.tx)
    l.fn.stage.shared l.fn.stage.late.items) l.fn.self l.self l.fn.seats l.seats
    × CallsFirst (Plays (stage_view (g.B.Board.view l.fn.stage.rx)
    (g.B.Board.view l.fn.stage.tx) l.fn.stage.shared l.fn.stage.late.items) l.fn.part) l.i l.did
    (actors l.fn.part l.fn.self) (actors l.fn.part l.self) l.fn.seats l.seats
    × OthersStay l.fn.part l.fn.self l.self
