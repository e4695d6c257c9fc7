use Rattle.history.proofs.OwnLemmas.{none-unless}
use Rattle.run_workers.proofs.Names.{ap, sym, refl, ◌∙◌, this_lane}
use Rattle.run_workers.proofs.Hands.DeltaLemmas.{serves_look, serves_next, stays}
use Rattle.run_workers.proofs.Hands.DrainLemmas.{keeps_drain}
use Rattle.run_workers.proofs.Hands.StopLemmas.{stops_empty}
use Rattle.run_workers.proofs.drain.Drain.fill.Goals as goal

pub returns-then-has_all-clause-is : goal.returns-then-has_all-clause-is
returns-then-has_all-clause-is g c =
    keeps_drain c.args.given.now c.args.self.now c.args.seat.now c.has_all.new.seat
    (λ served. serves_look served c.args.self.now.lane c.args.seat.now c.has_all.new.seat
    c.has_all.ensures.looks) c.requires.is

pub returns-then-has_all-clause-serves : goal.returns-then-has_all-clause-serves
returns-then-has_all-clause-serves g c =
    serves_look (this_lane c.args.self.now.lane) c.args.self.now.lane c.args.seat.now
    c.has_all.new.seat c.has_all.ensures.looks

pub pull-requires-clause-is : goal.pull-requires-clause-is
pull-requires-clause-is g c =
    keeps_drain c.args.given.now c.args.self.now c.args.seat.now c.has_all.new.seat
    (λ served. serves_look served c.args.self.now.lane c.args.seat.now c.has_all.new.seat
    c.has_all.ensures.looks) c.requires.is

pub returns-clause-serves : goal.returns-clause-serves
returns-clause-serves g c =
    serves_next (this_lane c.args.self.now.lane) c.args.seat.now c.has_all.new.seat
    c.pull.new.seat
    (serves_look (this_lane c.args.self.now.lane) c.args.self.now.lane c.args.seat.now
    c.has_all.new.seat c.has_all.ensures.looks) c.pull.ensures.serves

pub returns-then-has_all-clause-none : goal.returns-then-has_all-clause-none
returns-then-has_all-clause-none g c = λ none.
    stops_empty (g.B.Board.view c.args.board.now).sizes c.args.given.now c.args.self.now
    c.args.self.now c.args.seat.now c.args.seat.now c.has_all.new.seat refl none
    (stays (this_lane c.args.self.now.lane) c.args.seat.now)
    (c.has_all.ensures.all c.if-has_all.true)

pub returns-clause-none : goal.returns-clause-none
returns-clause-none g c = λ none.
    stops_empty (g.B.Board.view c.args.board.now).sizes c.args.given.now c.args.self.now
    c.pull.new.self c.args.seat.now c.has_all.new.seat c.pull.new.seat c.pull.ensures.same none
    (serves_look (this_lane c.args.self.now.lane) c.args.self.now.lane c.args.seat.now
    c.has_all.new.seat c.has_all.ensures.looks)
    (c.pull.ensures.none none)

pub returns-clause-empty : goal.returns-clause-empty
returns-clause-empty g c = λ none.
    c.pull.ensures.same
    ∙ ap (λ h. record c.args.self.now { hand = h })
    (none ∙ sym (none-unless c.args.self.now.hand (sym c.is_some.ensures ∙ c.if-is_some.false)))
