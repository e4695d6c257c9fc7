use Rattle.board_api.specs.Calls.Results.{ReadTells}
use Rattle.run_workers.proofs.Names.{ℕ, length, subst, ap, ◌∙◌, number}
use Rattle.run_workers.proofs.Hands.ServerLemmas.{peeks_held, peeks_read, vain_held, vain_none}
use Rattle.run_workers.proofs.Hands.ServerLemmas.{vain_read}
use Rattle.run_workers.proofs.server.Server.peek.Goals as goal

pub returns-in-Ok-clause-peeks : goal.returns-in-Ok-clause-peeks
returns-in-Ok-clause-peeks g c =
    peeks_read (g.B.Board.view c.args.board.now).sizes c.args.self.now.app
    (length c.args.self.now.sent.items) c.args.seat.now c.tail.new.seat c.tail.result
    c.tail.ensures c.try_hold.new.seat c.read_out.new.seat c.in-Ok.held c.read_out.result
    c.in-Ok.ensures.0 c.read_out.ensures.step
    (subst (λ (n : ℕ). ReadTells (g.B.Board.view c.args.board.now).sizes c.in-Ok.held n
    c.read_out.result) c.len-taken.ensures.len c.read_out.ensures.packet)

pub returns-in-Ok-clause-none : goal.returns-in-Ok-clause-none
returns-in-Ok-clause-none g c = λ none.
    vain_read (g.B.Board.view c.args.board.now).sizes c.args.self.now.app c.args.self.now.start
    (length c.args.self.now.sent.items) c.args.seat.now c.tail.new.seat c.tail.result
    c.tail.ensures c.try_hold.new.seat c.read_out.new.seat c.in-Ok.held c.read_out.result
    c.in-Ok.ensures.0 c.read_out.ensures.step
    (subst (λ (n : ℕ). ReadTells (g.B.Board.view c.args.board.now).sizes c.in-Ok.held n
    c.read_out.result) c.len-taken.ensures.len c.read_out.ensures.packet) none

pub returns-in-Held-clause-peeks : goal.returns-in-Held-clause-peeks
returns-in-Held-clause-peeks g c =
    peeks_held (g.B.Board.view c.args.board.now).sizes c.args.self.now.app
    (length c.args.self.now.sent.items) c.args.seat.now c.tail.new.seat c.tail.result
    c.tail.ensures c.try_hold.new.seat c.in-Held.word c.in-Held.ensures.1

pub returns-in-Held-clause-none : goal.returns-in-Held-clause-none
returns-in-Held-clause-none g c = λ none.
    vain_held (g.B.Board.view c.args.board.now).sizes c.args.self.now.app c.args.self.now.start
    (length c.args.self.now.sent.items) c.args.seat.now c.tail.new.seat c.tail.result
    c.tail.ensures c.try_hold.new.seat c.in-Held.word c.in-Held.ensures.0 c.in-Held.ensures.1

pub returns-then-tail-number_at-clause-none : goal.returns-then-tail-number_at-clause-none
returns-then-tail-number_at-clause-none g c = λ none.
    vain_none (g.B.Board.view c.args.board.now).sizes c.args.self.now.app c.args.self.now.start
    (length c.args.self.now.sent.items) c.args.seat.now c.tail.new.seat c.tail.result
    c.tail.ensures
    (c.if-tail-number_at.true
    ∙ (c.number_at.ensures ∙ ap (number c.args.self.now.start) c.len-taken.ensures.len))
