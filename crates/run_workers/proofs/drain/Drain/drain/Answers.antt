use Rattle.run_workers.proofs.Names.{◌≡◌, inr, ℕ, ◌||◌, refl, ap, ◌∙◌, arith, BoardSeatView, Serves}
use Rattle.run_workers.proofs.Names.{this_lane, Drain}
use Rattle.run_workers.proofs.Hands.DrainLemmas.{serves_on}
use Rattle.run_workers.proofs.Hands.StopLemmas.{delivered_more, moves_both, stopped_later}
use Rattle.run_workers.proofs.Hands.StopLemmas.{stops_later}
use Rattle.run_workers.proofs.drain.Drain.drain.Goals as goal

-- after a turn of the loop
serves_both : (l i k : ℕ) (a b c d : BoardSeatView) → Serves (this_lane l) a b → i ≡ l
    → Serves (this_lane i) b c → k ≡ i → Serves (this_lane k) c d → Serves (this_lane l) a d
serves_both l i k a b c d s same t other u =
    serves_on l k a c d (serves_on l i a b c s same t) (other ∙ same) u

-- what a drain keeps that has another hand, or has retired more
stays_at : (d e : Drain) → e ≡ record d { hand = e.hand; retired = e.retired }
    → (e.lane ≡ d.lane) × (e.exit ≡ d.exit) × (e.start ≡ d.start)
stays_at d e same = (
  ap (λ (x : Drain). x.lane) same,
  ap (λ (x : Drain). x.exit) same,
  ap (λ (x : Drain). x.start) same,
)

start_filled : (d e : Drain) → e ≡ record d { hand = e.hand } → e.start ≡ d.start
start_filled d e same = ap (λ (x : Drain). x.start) same

pub returns-in_default-clause-serves : goal.returns-in_default-clause-serves
returns-in_default-clause-serves g c =
    serves_on c.args.self.now.lane c.loop-round.self.lane c.args.seat.now c.loop-round.seat
    c.fill-pulled.new.seat c.loop-round.invariant.serves c.loop-round.invariant.lane
    c.fill-pulled.ensures.serves

pub returns-then-not-delivered-clause-serves : goal.returns-then-not-delivered-clause-serves
returns-then-not-delivered-clause-serves g c =
    serves_both c.args.self.now.lane c.loop-round.self.lane c.fill-pulled.new.self.lane
    c.args.seat.now c.loop-round.seat c.fill-pulled.new.seat c.deliver-delivered.new.seat
    c.loop-round.invariant.serves c.loop-round.invariant.lane c.fill-pulled.ensures.serves
    c.fill-pulled.ensures.lane c.deliver-delivered.ensures.serves

pub returns-in_default-clause-stops : goal.returns-in_default-clause-stops
returns-in_default-clause-stops g c =
    inr (stops_later (g.B.Board.view c.args.board.now).sizes c.args.given.now
    c.fill-pulled.new.self c.args.self.now.lane c.args.seat.now c.loop-round.seat
    c.fill-pulled.new.seat (c.fill-pulled.ensures.lane ∙ c.loop-round.invariant.lane)
    c.loop-round.invariant.serves (c.fill-pulled.ensures.none c.in_default.is))

pub returns-then-not-delivered-clause-stops : goal.returns-then-not-delivered-clause-stops
returns-then-not-delivered-clause-stops g c =
    stopped_later (g.B.Board.view c.args.board.now).sizes c.args.given.now
    c.deliver-delivered.new.self c.args.self.now.lane c.args.seat.now c.fill-pulled.new.seat
    c.deliver-delivered.new.seat
    ((stays_at c.fill-pulled.new.self c.deliver-delivered.new.self
    c.deliver-delivered.ensures.same).0
    ∙ (c.fill-pulled.ensures.lane ∙ c.loop-round.invariant.lane))
    (serves_on c.args.self.now.lane c.loop-round.self.lane c.args.seat.now c.loop-round.seat
    c.fill-pulled.new.seat c.loop-round.invariant.serves c.loop-round.invariant.lane
    c.fill-pulled.ensures.serves)
    (c.if-not-delivered.ensures.stops refl)

pub returns-in_default-clause-start : goal.returns-in_default-clause-start
returns-in_default-clause-start g c =
    start_filled c.loop-round.self c.fill-pulled.new.self c.fill-pulled.ensures.same
    ∙ c.loop-round.invariant.start

pub returns-then-not-delivered-clause-lane : goal.returns-then-not-delivered-clause-lane
returns-then-not-delivered-clause-lane g c =
    (stays_at c.fill-pulled.new.self c.deliver-delivered.new.self
    c.deliver-delivered.ensures.same).0
    ∙ (c.fill-pulled.ensures.lane ∙ c.loop-round.invariant.lane)

pub returns-then-not-delivered-clause-exit : goal.returns-then-not-delivered-clause-exit
returns-then-not-delivered-clause-exit g c =
    (stays_at c.fill-pulled.new.self c.deliver-delivered.new.self
    c.deliver-delivered.ensures.same).1
    ∙ (c.fill-pulled.ensures.exit ∙ c.loop-round.invariant.exit)

pub returns-then-not-delivered-clause-start : goal.returns-then-not-delivered-clause-start
returns-then-not-delivered-clause-start g c =
    (stays_at c.fill-pulled.new.self c.deliver-delivered.new.self
    c.deliver-delivered.ensures.same).2
    ∙ (start_filled c.loop-round.self c.fill-pulled.new.self c.fill-pulled.ensures.same
    ∙ c.loop-round.invariant.start)

pub loop-round-preserved : goal.loop-round-preserved
loop-round-preserved g c =
    let before = c.loop-round.invariant.rounds in
    let same = ap (λ (d : Drain). d.retired) c.fill-pulled.ensures.same in
    let more =
    delivered_more c.fill-pulled.new.self c.deliver-delivered.new.self c.in-Some.id c.in-Some.is
    c.if-not-delivered.ensures.did in
    let kept =
    stays_at c.fill-pulled.new.self c.deliver-delivered.new.self
    c.deliver-delivered.ensures.same in
    record {
      is = c.deliver-delivered.ensures.is;
      serves = serves_both c.args.self.now.lane c.loop-round.self.lane
          c.fill-pulled.new.self.lane c.args.seat.now c.loop-round.seat c.fill-pulled.new.seat
          c.deliver-delivered.new.seat c.loop-round.invariant.serves
          c.loop-round.invariant.lane c.fill-pulled.ensures.serves c.fill-pulled.ensures.lane
          c.deliver-delivered.ensures.serves;
      lane = kept.0
          ∙ (c.fill-pulled.ensures.lane ∙ c.loop-round.invariant.lane);
      exit = kept.1
          ∙ (c.fill-pulled.ensures.exit ∙ c.loop-round.invariant.exit);
      start = kept.2
          ∙ (start_filled c.loop-round.self c.fill-pulled.new.self c.fill-pulled.ensures.same
          ∙ c.loop-round.invariant.start);
      did = moves_both c.args.self.now c.fill-pulled.new.self c.deliver-delivered.new.self
          (c.loop-round.did || c.fill-pulled.result) c.deliver-delivered.result
          (moves_both c.args.self.now c.loop-round.self c.fill-pulled.new.self c.loop-round.did
          c.fill-pulled.result c.loop-round.invariant.did c.fill-pulled.ensures.did)
          c.deliver-delivered.ensures.did;
      rounds = omega (arith, before, same, more);
    }
