use Rattle.run_workers.specs.Hands.Pollers.{FindsAnnounced, KeepsReading}
use Rattle.run_workers.proofs.Names.{ℕ, Option, inl, inr, refl, ap, subst, ◌∙◌, gate_steps, closed}
use Rattle.run_workers.proofs.Names.{visit, Chosen, BoardSeatView, sym, length, [], ◌∷◌, Gate}
use Rattle.run_workers.proofs.Names.{Entered, Left, Turned, Poller}
use Rattle.run_workers.proofs.Hands.ReadLemmas.{kept_added}
use Rattle.run_workers.proofs.Hands.VisitLemmas.{stays_inside, stays_open, turn, visits}
use Rattle.run_workers.proofs.Hands.WaitLemmas.{waited}
use Rattle.run_workers.proofs.poller.Poller.poll.Goals as goal

pub returns-in_default-clause-polls : goal.returns-in_default-clause-polls
returns-in_default-clause-polls g c =
    record {
      mid = c.take-took.new.self;
      took = c.take-took.result;
      takes = c.take-took.ensures.takes;
      none = c.take-took.ensures.none;
      same = c.take-took.ensures.same;
      steers = inl (waited c.take-took.new.self c.args.seat.now c.args.hint.now
          c.announced.new.seat (subst (λ (found : Option ℕ). FindsAnnounced
          c.take-took.new.self.hand found c.args.hint.now c.announced.new.seat)
          c.in_default.is c.announced.ensures));
    }

pub leave-requires-clause-inside : goal.leave-requires-clause-inside
leave-requires-clause-inside g c =
    stays_inside c.args.shared.now.given c.args.shared.now.filters c.take-took.new.self.queue
    c.take-took.new.self.flows c.steer.new.self.flows c.take-took.new.self.table
    c.steer.new.self.table c.take-took.new.self.accepted c.steer.new.self.accepted
    (record { id = c.in-Some.id; choice = c.steer.result }) c.enter.new.seat c.steer.new.seat
    c.announced.new.seat c.steer.new.hint c.steer.ensures.steers
    (ap (λ (s : BoardSeatView). visit (gate_steps s.steps)) c.in-Ok.ensures.step.2)

pub returns-in-Ok-clause-polls : goal.returns-in-Ok-clause-polls
returns-in-Ok-clause-polls g c =
    let chosen : Chosen = record { id = c.in-Some.id; choice = c.steer.result } in
    let word = c.in-Ok.ensures.step.0 in
    record {
      mid = c.take-took.new.self;
      took = c.take-took.result;
      takes = c.take-took.ensures.takes;
      none = c.take-took.ensures.none;
      same = c.take-took.ensures.same;
      steers = inr (
        c.in-Some.id,
        c.in-Some.ensures.0,
        record {
          turn = turn c.args.shared.now.given c.args.shared.now.filters c.take-took.new.self.queue
              c.take-took.new.self.flows c.steer.new.self.flows c.take-took.new.self.table
              c.steer.new.self.table c.take-took.new.self.accepted c.steer.new.self.accepted
              chosen c.enter.new.seat c.steer.new.seat c.announced.new.seat c.steer.new.hint
              c.steer.ensures.steers word;
          id_is = refl;
          word = c.in-Some.ensures.1;
          hint_mid = c.announced.new.seat;
          loads = c.in-Some.ensures.2;
          announced = c.in-Some.ensures.3;
          visit = visits c.args.shared.now.given c.args.shared.now.filters
              c.take-took.new.self.queue c.take-took.new.self.flows c.steer.new.self.flows
              c.take-took.new.self.table c.steer.new.self.table c.take-took.new.self.accepted
              c.steer.new.self.accepted chosen c.enter.new.seat c.steer.new.seat
              c.announced.new.seat c.steer.new.hint c.steer.ensures.steers c.args.seat.now
              c.leave.new.seat word c.in-Ok.ensures.step.1 c.in-Ok.ensures.step.2
              c.leave.ensures;
          choices = c.steer.ensures.choices;
          same = c.steer.ensures.same;
        },
      );
    }

pub returns-in-Closed-clause-polls : goal.returns-in-Closed-clause-polls
returns-in-Closed-clause-polls g c =
    record {
      mid = c.take-took.new.self;
      took = c.take-took.result;
      takes = c.take-took.ensures.takes;
      none = c.take-took.ensures.none;
      same = c.take-took.ensures.same;
      steers = inl (record {
        same = refl;
        steps = inr (inr (
          c.in-Some.id,
          c.in-Some.ensures.1,
          c.in-Some.ensures.0,
          c.in-Some.ensures.2,
          c.in-Some.ensures.3,
          (c.in-Closed.word, c.in-Closed.ensures.step.1),
        ));
      });
    }

pub returns-in-Ok-clause-outside : goal.returns-in-Ok-clause-outside
returns-in-Ok-clause-outside g c = (
  ap (λ (s : BoardSeatView). visit (gate_steps s.steps)) c.leave.ensures,
  ap (λ (s : BoardSeatView). closed (gate_steps s.steps)) c.leave.ensures
      ∙ stays_open c.args.shared.now.given c.args.shared.now.filters c.take-took.new.self.queue
      c.take-took.new.self.flows c.steer.new.self.flows c.take-took.new.self.table
      c.steer.new.self.table c.take-took.new.self.accepted c.steer.new.self.accepted
      (record { id = c.in-Some.id; choice = c.steer.result }) c.enter.new.seat c.steer.new.seat
      c.announced.new.seat c.steer.new.hint c.steer.ensures.steers
      (ap (λ (s : BoardSeatView). closed (gate_steps s.steps)) c.in-Ok.ensures.step.2
      ∙ c.requires.outside.1),
)

pub steer-requires-clause-kept : goal.steer-requires-clause-kept
steer-requires-clause-kept g c =
    let homes = length c.args.shared.now.given.homes in
    kept_added homes c.take-took.new.self (Gate (Entered c.in-Ok.ensures.step.0) ∷ [])
    c.args.seat.now c.enter.new.seat c.in-Ok.ensures.step.2
    (subst (λ (p : Poller). KeepsReading homes p c.args.seat.now.steps)
    (sym c.take-took.ensures.same) c.requires.kept)

pub returns-in-Ok-clause-kept : goal.returns-in-Ok-clause-kept
returns-in-Ok-clause-kept g c =
    kept_added (length c.args.shared.now.given.homes) c.steer.new.self (Gate Left ∷ [])
    c.steer.new.seat c.leave.new.seat c.leave.ensures c.steer.ensures.kept

pub returns-in-Closed-clause-kept : goal.returns-in-Closed-clause-kept
returns-in-Closed-clause-kept g c =
    let homes = length c.args.shared.now.given.homes in
    kept_added homes c.take-took.new.self (Gate Left ∷ Gate (Turned c.in-Closed.word) ∷ [])
    c.args.seat.now c.enter.new.seat c.in-Closed.ensures.step.1
    (subst (λ (p : Poller). KeepsReading homes p c.args.seat.now.steps)
    (sym c.take-took.ensures.same) c.requires.kept)

pub returns-in_default-clause-kept : goal.returns-in_default-clause-kept
returns-in_default-clause-kept g c =
    subst (λ (p : Poller). KeepsReading (length c.args.shared.now.given.homes) p
    c.args.seat.now.steps) (sym c.take-took.ensures.same) c.requires.kept
