use Rattle.run_workers.specs.Hands.Pollers.{Puts}
use Rattle.run_workers.proofs.Names.{ℕ, Option, refl, ap, subst, sym, filter_place, Put, At}
use Rattle.run_workers.proofs.Names.{Dropped, PutTells, filter_for, StoresFilter, Poller}
use Rattle.run_workers.proofs.Hands.PutLemmas.{dropped_told, put_made, puts, still_inside}
use Rattle.run_workers.proofs.poller.Poller.put.Goals as goal

pub put-answer-requires-clause-inside : goal.put-answer-requires-clause-inside
put-answer-requires-clause-inside g c =
    still_inside (g.B.Board.view c.args.board.now).sizes c.args.packet.choice.lane
    c.args.seat.now c.hold-held.new.seat c.hold-held.new.seat c.hold-held.result
    c.hold-held.ensures c.requires.inside

pub returns-in-At-clause-puts : goal.returns-in-At-clause-puts
returns-in-At-clause-puts g c =
    puts c.args.shared.now.given c.args.shared.now.filters c.args.packet.id c.hash_of-hash.result
    c.args.packet.choice (At c.in-At.position) c.args.self.now.table c.note.new.self.table
    c.args.self.now.accepted c.note.new.self.accepted c.args.seat.now c.put-answer.new.seat
    c.args.hint.now c.ask.new.seat c.hash_of-hash.ensures
    (put_made (g.B.Board.view c.args.board.now).sizes c.args.packet.choice.lane
    c.args.seat.now c.hold-held.new.seat c.put-answer.new.seat c.args.packet.id
    c.hash_of-hash.result (At c.in-At.position) c.hold-held.result c.hold-held.ensures
    c.in-At.ensures)
    (ap (λ (p : Poller). p.table) c.note.ensures.same)
    (ap (λ (p : Poller). p.accepted) c.note.ensures.same)
    (subst (λ (h : Option ℕ). StoresFilter (filter_place c.args.shared.now.filters h)
    (filter_for c.args.shared.now.given.homes c.args.shared.now.filters c.args.packet.choice
    c.in-At.position) c.args.hint.now c.ask.new.seat) c.hash_of-hash.ensures c.ask.ensures)

pub returns-in_default-clause-puts : goal.returns-in_default-clause-puts
returns-in_default-clause-puts g c =
    let drop : Put =
    Dropped c.in_default.field-0 c.in_default.field-1 c.in_default.field-2
    c.in_default.field-3 in
    subst (λ (answer : Put). Puts c.args.shared.now.given c.args.shared.now.filters
    c.args.packet.id c.args.packet.choice answer c.args.self.now.table c.args.self.now.table
    c.args.self.now.accepted c.args.self.now.accepted c.args.seat.now c.put-answer.new.seat
    c.args.hint.now c.args.hint.now) (sym c.in_default.is)
    (puts c.args.shared.now.given c.args.shared.now.filters c.args.packet.id
    c.hash_of-hash.result c.args.packet.choice drop c.args.self.now.table c.args.self.now.table
    c.args.self.now.accepted c.args.self.now.accepted c.args.seat.now c.put-answer.new.seat
    c.args.hint.now c.args.hint.now c.hash_of-hash.ensures
    (put_made (g.B.Board.view c.args.board.now).sizes c.args.packet.choice.lane
    c.args.seat.now c.hold-held.new.seat c.put-answer.new.seat c.args.packet.id
    c.hash_of-hash.result drop c.hold-held.result c.hold-held.ensures
    (subst (PutTells c.hold-held.result c.args.packet.id c.hash_of-hash.result
    c.hold-held.new.seat c.put-answer.new.seat) c.in_default.is c.put-answer.ensures))
    (dropped_told c.args.self.now.table c.args.packet.choice.class c.in_default.field-0
    c.in_default.field-1 c.in_default.field-2 c.in_default.field-3) refl refl)
