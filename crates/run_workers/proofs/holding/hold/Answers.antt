use Rattle.run_workers.proofs.Names.{no_lane}
use Rattle.run_workers.proofs.Hands.DeltaLemmas.{serves_back, serves_missed, serves_next}
use Rattle.run_workers.proofs.holding.hold.Goals as goal

pub loop-preserved-in-Ok : goal.loop-preserved-in-Ok
loop-preserved-in-Ok g c = (
  tt,
  tt,
  serves_next no_lane c.args.seat.now c.loop.seat c.give_back.new.seat
      c.loop.invariant.2
      (serves_back no_lane (g.B.Board.view c.args.board.now).sizes c.args.lane c.loop.seat
      c.try_hold.new.seat c.give_back.new.seat c.in-Ok.held c.in-Ok.ensures.0 c.give_back.ensures),
)

pub loop-preserved : goal.loop-preserved
loop-preserved g c = (
  tt,
  tt,
  serves_next no_lane c.args.seat.now c.loop.seat c.try_hold.new.seat
      c.loop.invariant.2
      (serves_missed no_lane c.args.lane c.in-Held.word c.loop.seat c.try_hold.new.seat
      c.in-Held.ensures.1),
)
