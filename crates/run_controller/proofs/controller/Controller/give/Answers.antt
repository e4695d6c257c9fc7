use Rattle.run_controller.proofs.Names.{◌≡◌, ◌∙◌, sym, arith, stage}
use Rattle.run_controller.proofs.WaitLemmas.{given_busy, given_done, may_try, waits_more}
use Rattle.run_controller.proofs.WaitLemmas.{waits_none}
use Rattle.run_controller.proofs.controller.Controller.give.Goals as goal

pub loop-init : goal.loop-init
loop-init g c = waits_none _ c.args.command c.args.self.now c.args.seats.now c.requires.ready

pub attempt-answer-requires : goal.attempt-answer-requires
attempt-answer-requires g c =
    let may =
    may_try _ c.args.command c.args.tries c.loop.counter c.args.self.now c.loop.self
    c.args.seats.now c.loop.seats c.loop.invariant c.loop-test.true c.requires.room in
    record {
      stage = c.requires.stage;
      seated = may.seated;
      known = may.known;
      named = c.requires.named;
    }

pub note-requires : goal.note-requires
note-requires g c =
    let may =
    may_try _ c.args.command c.args.tries c.loop.counter c.args.self.now c.loop.self
    c.args.seats.now c.loop.seats c.loop.invariant c.loop-test.true c.requires.room in
    record { named = c.requires.named; known = may.known; room = may.room }

pub loop-preserved : goal.loop-preserved
loop-preserved g c =
    waits_more _ c.args.command c.loop.counter c.args.self.now c.loop.self c.note.new.self
    c.args.seats.now c.loop.seats c.attempt-answer.new.seats c.attempt-answer.result
    c.requires.named c.loop.invariant
    (record {
      tried = c.attempt-answer.ensures;
      known = c.note.ensures.known;
      noted = c.note.ensures.noted;
    })
    (sym c.is_busy.ensures ∙ c.if-not-is_busy.false)

pub returns-then-not-is_busy : goal.returns-then-not-is_busy
returns-then-not-is_busy g c =
    let given =
    given_done _ c.args.command c.loop.counter c.args.self.now c.loop.self c.note.new.self
    c.args.seats.now c.loop.seats c.attempt-answer.new.seats c.attempt-answer.result
    c.requires.named c.loop.invariant
    (record {
      tried = c.attempt-answer.ensures;
      known = c.note.ensures.known;
      noted = c.note.ensures.noted;
    })
    c.args.tries c.loop-test.true (sym c.is_busy.ensures ∙ c.if-not-is_busy.true) in
    record {
      once = given.once;
      attempted = given.attempted;
      ready = given.ready;
      room = given.room;
    }

pub returns : goal.returns
returns g c =
    let past = c.loop-test.false in
    let within = c.loop.auto.counter-end in
    let all : c.loop.counter ≡ c.args.tries = omega (arith, past, within) in
    let given =
    given_busy
    (stage c.args.shared.now (g.B.Board.view c.args.rx.now) (g.B.Board.view c.args.tx.now))
    c.args.command c.args.tries c.loop.counter c.args.self.now c.loop.self
    c.args.seats.now c.loop.seats c.loop.invariant c.requires.some all in
    record {
      once = given.once;
      attempted = given.attempted;
      ready = given.ready;
      room = given.room;
    }
