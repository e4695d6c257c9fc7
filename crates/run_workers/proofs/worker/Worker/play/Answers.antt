use Rattle.run_workers.specs.Turns.{CallsOne}
use Rattle.run_workers.proofs.Names.{subst, sym, stage_view, Plays, actors}
use Rattle.run_workers.proofs.worker.Worker.play.Goals as goal

pub returns-in-Poll-clause-one : goal.returns-in-Poll-clause-one
returns-in-Poll-clause-one g c =
    subst (λ p. CallsOne (Plays (stage_view (g.B.Board.view c.args.stage.now.rx)
    (g.B.Board.view c.args.stage.now.tx) c.args.stage.now.shared c.args.stage.now.late.items) p)
    c.args.i c.poll.result (actors p c.args.self.now) (actors p c.poll.new.self) c.args.seats.now
    c.poll.new.seats) (sym c.in-Poll.is) c.poll.ensures.one

pub returns-in-Drain-clause-one : goal.returns-in-Drain-clause-one
returns-in-Drain-clause-one g c =
    subst (λ p. CallsOne (Plays (stage_view (g.B.Board.view c.args.stage.now.rx)
    (g.B.Board.view c.args.stage.now.tx) c.args.stage.now.shared c.args.stage.now.late.items) p)
    c.args.i c.drain.result (actors p c.args.self.now) (actors p c.drain.new.self) c.args.seats.now
    c.drain.new.seats) (sym c.in-Drain.is) c.drain.ensures.one

pub returns-in-Serve-clause-one : goal.returns-in-Serve-clause-one
returns-in-Serve-clause-one g c =
    subst (λ p. CallsOne (Plays (stage_view (g.B.Board.view c.args.stage.now.rx)
    (g.B.Board.view c.args.stage.now.tx) c.args.stage.now.shared c.args.stage.now.late.items) p)
    c.args.i c.serve.result (actors p c.args.self.now) (actors p c.serve.new.self) c.args.seats.now
    c.serve.new.seats) (sym c.in-Serve.is) c.serve.ensures.one

pub returns-in-Ship-clause-one : goal.returns-in-Ship-clause-one
returns-in-Ship-clause-one g c =
    subst (λ p. CallsOne (Plays (stage_view (g.B.Board.view c.args.stage.now.rx)
    (g.B.Board.view c.args.stage.now.tx) c.args.stage.now.shared c.args.stage.now.late.items) p)
    c.args.i c.ship.result (actors p c.args.self.now) (actors p c.ship.new.self) c.args.seats.now
    c.ship.new.seats) (sym c.in-Ship.is) c.ship.ensures.one
