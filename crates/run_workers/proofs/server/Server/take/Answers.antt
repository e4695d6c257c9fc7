use Rattle.history.proofs.OwnLemmas.{none-unless}
use Rattle.run_workers.proofs.Names.{◌<◌, ℕ, inl, inr, refl, ap, subst, sym, ◌∙◌, arith, gate_steps}
use Rattle.run_workers.proofs.Names.{closed, BoardSeatView, no_lane, HasNoNext, IsServer}
use Rattle.run_workers.proofs.Hands.DeltaLemmas.{stays}
use Rattle.run_workers.proofs.Hands.ServerLemmas.{peeks_serve, quiet_gate, quiet_place, taken_is}
use Rattle.run_workers.proofs.Hands.WaitLemmas.{clear_word, set_word}
use Rattle.run_workers.proofs.server.Server.take.Goals as goal

pub returns-then-is_some-clause-takes : goal.returns-then-is_some-clause-takes
returns-then-is_some-clause-takes g c =
    let none : HasNoNext (g.B.Board.view c.args.board.now).sizes c.args.self.now c.args.seat.now
    c.args.seat.now =
    elim c.then-is_some.branch [
      | goal.then-is_some-via-then-is_some w ↦ inl (sym c.is_some.ensures ∙ w.if-is_some.true)
      | goal.then-is_some-via-else-is_some+then-len-room w ↦
          let full = w.if-len-room.true in
          let len = w.len.ensures.len in
          let room = w.room.ensures in
          inr (inl (omega (arith, full, len, room)))
    ] in
    record {
      same = refl;
      mid = c.args.seat.now;
      looks = stays no_lane c.args.seat.now;
      gate = inl (none, refl, refl);
    }

pub returns-in_default-clause-takes : goal.returns-in_default-clause-takes
returns-in_default-clause-takes g c =
    record {
      same = refl;
      mid = c.peek.new.seat;
      looks = peeks_serve _ _ _ c.peek.result c.args.seat.now c.peek.new.seat c.peek.ensures.peeks;
      gate = inl (inr (inr (c.peek.ensures.none c.in_default.is)), refl, refl);
    }

pub returns-in_default-clause-outside : goal.returns-in_default-clause-outside
returns-in_default-clause-outside g c =
    let p = c.peek.ensures.peeks in
    quiet_place p.added c.args.seat.now c.peek.new.seat p.only.quiet p.adds ∙ c.requires.outside

pub returns-in_default-clause-open : goal.returns-in_default-clause-open
returns-in_default-clause-open g c =
    let p = c.peek.ensures.peeks in
    quiet_gate p.added c.args.seat.now c.peek.new.seat p.only.quiet p.adds ∙ c.requires.open

pub returns-then-not-is_steered-clause-takes : goal.returns-then-not-is_steered-clause-takes
returns-then-not-is_steered-clause-takes g c =
    let loads = c.is_steered.ensures.loads in
    record {
      same = refl;
      mid = c.peek.new.seat;
      looks = peeks_serve _ _ _ c.peek.result c.args.seat.now c.peek.new.seat c.peek.ensures.peeks;
      gate = inr (
        c.in-Some.id,
        loads.0,
        c.in-Some.ensures.peeks,
        loads.1,
        inl (clear_word c.is_steered.result loads.0 loads.2 c.if-not-is_steered.true, refl),
      );
    }

pub returns-then-not-is_steered-clause-outside : goal.returns-then-not-is_steered-clause-outside
returns-then-not-is_steered-clause-outside g c =
    let p = c.peek.ensures.peeks in
    quiet_place p.added c.args.seat.now c.peek.new.seat p.only.quiet p.adds ∙ c.requires.outside

pub returns-then-not-is_steered-clause-open : goal.returns-then-not-is_steered-clause-open
returns-then-not-is_steered-clause-open g c =
    let p = c.peek.ensures.peeks in
    quiet_gate p.added c.args.seat.now c.peek.new.seat p.only.quiet p.adds ∙ c.requires.open

pub enter-requires-clause-outside : goal.enter-requires-clause-outside
enter-requires-clause-outside g c =
    let p = c.peek.ensures.peeks in
    quiet_place p.added c.args.seat.now c.peek.new.seat p.only.quiet p.adds ∙ c.requires.outside

pub enter-requires-clause-open : goal.enter-requires-clause-open
enter-requires-clause-open g c =
    let p = c.peek.ensures.peeks in
    quiet_gate p.added c.args.seat.now c.peek.new.seat p.only.quiet p.adds ∙ c.requires.open

pub returns-in-Ok-clause-is : goal.returns-in-Ok-clause-is
returns-in-Ok-clause-is g c =
    let few = c.if-len-room.false in
    let len = c.len.ensures.len in
    let room = c.room.ensures in
    subst (IsServer c.args.shared.now.given) (sym c.record.ensures.same)
    (taken_is c.args.shared.now.given c.args.self.now c.in-Some.id c.record.new.self.writes
    c.enter.new.seat c.record.new.seat c.is_steered.new.seat c.record.new.hint c.requires.is
    (none-unless c.args.self.now.hand (sym c.is_some.ensures ∙ c.if-is_some.false))
    (omega (arith, few, len, room))
    (subst (λ (n : ℕ). c.in-Some.id < n) (sym c.requires.room)
    c.in-Some.ensures.peeks.found.within)
    c.record.ensures.notes)

pub returns-in-Ok-clause-open : goal.returns-in-Ok-clause-open
returns-in-Ok-clause-open g c =
    let p = c.peek.ensures.peeks in
    ap (λ (s : BoardSeatView). closed (gate_steps s.steps)) c.leave.ensures
    ∙ (ap (λ (s : BoardSeatView). closed (gate_steps s.steps)) c.record.ensures.notes.1
    ∙ (ap (λ (s : BoardSeatView). closed (gate_steps s.steps)) c.in-Ok.ensures.step.2
    ∙ (quiet_gate p.added c.args.seat.now c.peek.new.seat p.only.quiet p.adds
    ∙ c.requires.open)))

pub returns-in-Closed-clause-takes : goal.returns-in-Closed-clause-takes
returns-in-Closed-clause-takes g c =
    let loads = c.is_steered.ensures.loads in
    record {
      same = refl;
      mid = c.peek.new.seat;
      looks = peeks_serve _ _ _ c.peek.result c.args.seat.now c.peek.new.seat c.peek.ensures.peeks;
      gate = inr (
        c.in-Some.id,
        loads.0,
        c.in-Some.ensures.peeks,
        loads.1,
        inr (
          set_word c.is_steered.result loads.0 loads.2 c.if-not-is_steered.false,
          (c.in-Closed.word, c.in-Closed.ensures.step.1),
        ),
      );
    }

pub returns-in-Closed-clause-open : goal.returns-in-Closed-clause-open
returns-in-Closed-clause-open g c =
    let p = c.peek.ensures.peeks in
    ap (λ (s : BoardSeatView). closed (gate_steps s.steps)) c.in-Closed.ensures.step.1
    ∙ (quiet_gate p.added c.args.seat.now c.peek.new.seat p.only.quiet p.adds
    ∙ c.requires.open)
