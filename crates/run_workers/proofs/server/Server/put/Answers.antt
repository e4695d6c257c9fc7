use Rattle.run_workers.specs.Hands.Servers.{PutsReply}
use Rattle.run_workers.proofs.Names.{ap, subst, sym, Put, At, Dropped, PutTells, Server}
use Rattle.run_workers.proofs.Hands.PutLemmas.{dropped_told, put_made, still_inside}
use Rattle.run_workers.proofs.Hands.ReplyLemmas.{puts_reply}
use Rattle.run_workers.proofs.server.Server.put.Goals as goal

pub put-answer-requires-clause-inside : goal.put-answer-requires-clause-inside
put-answer-requires-clause-inside g c =
    still_inside (g.B.Board.view c.args.board.now).sizes c.args.packet.choice.lane
    c.args.seat.now c.hold-held.new.seat c.hold-held.new.seat c.hold-held.result
    c.hold-held.ensures c.requires.inside

pub returns-in-At-clause-puts : goal.returns-in-At-clause-puts
returns-in-At-clause-puts g c =
    puts_reply c.args.shared.now.given c.args.packet.id c.hash_of-hash.result
    c.args.packet.choice (At c.in-At.position) c.args.self.now.table c.note.new.self.table
    c.args.seat.now c.put-answer.new.seat c.hash_of-hash.ensures
    (put_made (g.B.Board.view c.args.board.now).sizes c.args.packet.choice.lane
    c.args.seat.now c.hold-held.new.seat c.put-answer.new.seat c.args.packet.id
    c.hash_of-hash.result (At c.in-At.position) c.hold-held.result c.hold-held.ensures
    c.in-At.ensures)
    (ap (λ (s : Server). s.table) c.note.ensures.same)

pub returns-in_default-clause-puts : goal.returns-in_default-clause-puts
returns-in_default-clause-puts g c =
    let drop : Put =
    Dropped c.in_default.field-0 c.in_default.field-1 c.in_default.field-2
    c.in_default.field-3 in
    subst (λ (answer : Put). PutsReply c.args.shared.now.given c.args.packet.id
    c.args.packet.choice answer c.args.self.now.table c.args.self.now.table c.args.seat.now
    c.put-answer.new.seat) (sym c.in_default.is)
    (puts_reply c.args.shared.now.given c.args.packet.id c.hash_of-hash.result
    c.args.packet.choice drop c.args.self.now.table c.args.self.now.table c.args.seat.now
    c.put-answer.new.seat c.hash_of-hash.ensures
    (put_made (g.B.Board.view c.args.board.now).sizes c.args.packet.choice.lane
    c.args.seat.now c.hold-held.new.seat c.put-answer.new.seat c.args.packet.id
    c.hash_of-hash.result drop c.hold-held.result c.hold-held.ensures
    (subst (PutTells c.hold-held.result c.args.packet.id c.hash_of-hash.result
    c.hold-held.new.seat c.put-answer.new.seat) c.in_default.is c.put-answer.ensures))
    (dropped_told c.args.self.now.table c.args.packet.choice.class c.in_default.field-0
    c.in_default.field-1 c.in_default.field-2 c.in_default.field-3))
