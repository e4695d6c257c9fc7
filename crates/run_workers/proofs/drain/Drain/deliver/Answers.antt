use Rattle.run_workers.specs.Hands.Drains.{FindsNoRoom}
use Rattle.run_workers.proofs.Names.{ℕ, inl, inr, sym, subst, ◌∙◌, this_lane}
use Rattle.run_workers.proofs.Hands.DeltaLemmas.{serves_out_back, serves_out_missed, stays}
use Rattle.run_workers.proofs.Hands.DrainLemmas.{given_one, keeps_drain, still_pulled}
use Rattle.run_workers.proofs.Hands.StopLemmas.{finds_no_room, stops_full}
use Rattle.run_workers.proofs.drain.Drain.deliver.Goals as goal

pub returns-then-room-eq0-clause-is : goal.returns-then-room-eq0-clause-is
returns-then-room-eq0-clause-is g c =
    keeps_drain c.args.given.now c.args.self.now c.args.seat.now c.give_back.new.seat
    (λ served. serves_out_back served (g.B.Board.view c.args.board.now).sizes c.out_of-out.result
    c.args.seat.now c.try_hold.new.seat c.give_back.new.seat c.in-Ok.held c.in-Ok.ensures.0
    c.give_back.ensures) c.requires.is

pub returns-then-room-eq0-clause-serves : goal.returns-then-room-eq0-clause-serves
returns-then-room-eq0-clause-serves g c =
    serves_out_back (this_lane c.args.self.now.lane) (g.B.Board.view c.args.board.now).sizes
    c.out_of-out.result c.args.seat.now c.try_hold.new.seat c.give_back.new.seat c.in-Ok.held
    c.in-Ok.ensures.0 c.give_back.ensures

pub returns-else-room-eq0-clause-is : goal.returns-else-room-eq0-clause-is
returns-else-room-eq0-clause-is g c =
    (given_one c.args.given.now c.args.self.now (g.B.Board.view c.args.board.now).sizes
    c.args.seat.now c.try_hold.new.seat c.deliver.new.seat c.retire.new.seat c.in-Ok.held
    c.out_of-out.result c.deliver.result c.args.id c.in-Ok.ensures.0 c.deliver.ensures
    c.retire.ensures c.requires.hand c.out_of-out.ensures.value c.requires.is).0

pub returns-else-room-eq0-clause-serves : goal.returns-else-room-eq0-clause-serves
returns-else-room-eq0-clause-serves g c =
    (given_one c.args.given.now c.args.self.now (g.B.Board.view c.args.board.now).sizes
    c.args.seat.now c.try_hold.new.seat c.deliver.new.seat c.retire.new.seat c.in-Ok.held
    c.out_of-out.result c.deliver.result c.args.id c.in-Ok.ensures.0 c.deliver.ensures
    c.retire.ensures c.requires.hand c.out_of-out.ensures.value c.requires.is).1

pub deliver-requires-clause-pulled : goal.deliver-requires-clause-pulled
deliver-requires-clause-pulled g c = (
  c.args.id,
  still_pulled c.args.given.now c.args.self.now
      (g.B.Board.view c.args.board.now).sizes c.args.seat.now c.try_hold.new.seat
      c.try_hold.new.seat c.in-Ok.held c.out_of-out.result c.args.id c.in-Ok.ensures.0
      c.requires.hand c.requires.is,
)

pub returns-in-Held-clause-is : goal.returns-in-Held-clause-is
returns-in-Held-clause-is g c =
    keeps_drain c.args.given.now c.args.self.now c.args.seat.now c.try_hold.new.seat
    (λ served. serves_out_missed served c.out_of-out.result c.in-Held.word c.args.seat.now
    c.try_hold.new.seat c.in-Held.ensures.1) c.requires.is

pub returns-in-Held-clause-serves : goal.returns-in-Held-clause-serves
returns-in-Held-clause-serves g c =
    serves_out_missed (this_lane c.args.self.now.lane) c.out_of-out.result c.in-Held.word
    c.args.seat.now c.try_hold.new.seat c.in-Held.ensures.1

pub returns-then-room-eq0-clause-stops : goal.returns-then-room-eq0-clause-stops
returns-then-room-eq0-clause-stops g c = λ none.
    inr (stops_full (g.B.Board.view c.args.board.now).sizes c.args.given.now c.args.self.now
    c.args.id c.args.seat.now c.args.seat.now c.give_back.new.seat c.requires.hand
    (stays (this_lane c.args.self.now.lane) c.args.seat.now)
    (subst (λ (o : ℕ). FindsNoRoom (g.B.Board.view c.args.board.now).sizes o c.args.seat.now
    c.give_back.new.seat) c.out_of-out.ensures.value
    (finds_no_room (g.B.Board.view c.args.board.now).sizes c.out_of-out.result c.args.seat.now
    c.try_hold.new.seat c.give_back.new.seat c.in-Ok.held c.in-Ok.ensures.0
    (sym c.room.ensures ∙ c.if-room-eq0.true) c.give_back.ensures)))

pub returns-in-Held-clause-stops : goal.returns-in-Held-clause-stops
returns-in-Held-clause-stops g c = λ none.
    let missed : FindsNoRoom (g.B.Board.view c.args.board.now).sizes c.out_of-out.result
    c.args.seat.now c.try_hold.new.seat =
    inl (c.in-Held.word, c.in-Held.ensures.0, c.in-Held.ensures.1) in
    inr (stops_full (g.B.Board.view c.args.board.now).sizes c.args.given.now c.args.self.now
    c.args.id c.args.seat.now c.args.seat.now c.try_hold.new.seat c.requires.hand
    (stays (this_lane c.args.self.now.lane) c.args.seat.now)
    (subst (λ (o : ℕ). FindsNoRoom (g.B.Board.view c.args.board.now).sizes o c.args.seat.now
    c.try_hold.new.seat) c.out_of-out.ensures.value missed))
