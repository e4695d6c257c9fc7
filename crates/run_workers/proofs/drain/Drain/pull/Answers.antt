use Rattle.run_workers.proofs.Names.{inl, inr, number, this_lane}
use Rattle.run_workers.proofs.Hands.DeltaLemmas.{serves_missed}
use Rattle.run_workers.proofs.Hands.DrainLemmas.{keeps_drain, pulled_none, pulled_one}
use Rattle.run_workers.proofs.Hands.StopLemmas.{finds_none}
use Rattle.run_workers.proofs.drain.Drain.pull.Goals as goal

pub returns-in-Took-clause-is : goal.returns-in-Took-clause-is
returns-in-Took-clause-is g c =
    (pulled_one c.args.given.now c.args.self.now (g.B.Board.view c.args.board.now).sizes
    c.args.seat.now c.try_hold.new.seat c.pull.new.seat c.in-Ok.held c.in-Took.id
    c.in-Ok.ensures.0 c.in-Took.ensures c.requires.is).0

pub returns-in-Took-clause-serves : goal.returns-in-Took-clause-serves
returns-in-Took-clause-serves g c =
    (pulled_one c.args.given.now c.args.self.now (g.B.Board.view c.args.board.now).sizes
    c.args.seat.now c.try_hold.new.seat c.pull.new.seat c.in-Ok.held c.in-Took.id
    c.in-Ok.ensures.0 c.in-Took.ensures c.requires.is).1

pub returns-in-Empty-clause-is : goal.returns-in-Empty-clause-is
returns-in-Empty-clause-is g c =
    keeps_drain c.args.given.now c.args.self.now c.args.seat.now c.pull.new.seat
    (λ served. pulled_none c.args.given.now c.args.self.now
    (g.B.Board.view c.args.board.now).sizes c.args.seat.now c.try_hold.new.seat c.pull.new.seat
    served c.in-Ok.held c.in-Ok.ensures.0 c.in-Empty.ensures) c.requires.is

pub returns-in-Empty-clause-serves : goal.returns-in-Empty-clause-serves
returns-in-Empty-clause-serves g c =
    pulled_none c.args.given.now c.args.self.now (g.B.Board.view c.args.board.now).sizes
    c.args.seat.now c.try_hold.new.seat c.pull.new.seat (this_lane c.args.self.now.lane)
    c.in-Ok.held c.in-Ok.ensures.0 c.in-Empty.ensures

pub returns-in-Held-clause-is : goal.returns-in-Held-clause-is
returns-in-Held-clause-is g c =
    keeps_drain c.args.given.now c.args.self.now c.args.seat.now c.try_hold.new.seat
    (λ served. serves_missed served c.args.self.now.lane c.in-Held.word c.args.seat.now
    c.try_hold.new.seat c.in-Held.ensures.1) c.requires.is

pub returns-in-Held-clause-serves : goal.returns-in-Held-clause-serves
returns-in-Held-clause-serves g c =
    serves_missed (this_lane c.args.self.now.lane) c.args.self.now.lane c.in-Held.word
    c.args.seat.now c.try_hold.new.seat c.in-Held.ensures.1

pub returns-in-Empty-clause-none : goal.returns-in-Empty-clause-none
returns-in-Empty-clause-none g c = λ none.
    finds_none (g.B.Board.view c.args.board.now).sizes c.args.self.now.lane
    (number c.args.self.now.start c.args.self.now.retired) c.args.seat.now c.try_hold.new.seat
    c.pull.new.seat c.in-Ok.held c.in-Ok.ensures.0 c.in-Empty.ensures

pub returns-in-Held-clause-none : goal.returns-in-Held-clause-none
returns-in-Held-clause-none g c = λ none.
    inr (inl (c.in-Held.word, c.in-Held.ensures.0, c.in-Held.ensures.1))
