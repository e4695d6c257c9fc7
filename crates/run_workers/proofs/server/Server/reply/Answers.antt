use Rattle.run_workers.proofs.Names.{ap, ◌∙◌, gate_steps, closed, visit, Sent, BoardSeatView}
use Rattle.run_workers.proofs.Hands.ReplyLemmas.{replies, reply_turn, sends_inside, sends_open}
use Rattle.run_workers.proofs.Names.{[], ◌∷◌, Gate, Entered, Left, Turned}
use Rattle.run_workers.proofs.Hands.MapLemmas.{maps_later}
use Rattle.run_workers.proofs.server.Server.reply.Goals as goal

pub send-requires-clause-kept : goal.send-requires-clause-kept
send-requires-clause-kept g c =
    maps_later c.args.seat.now.steps c.enter.new.seat.steps (
      Gate (Entered c.in-Ok.ensures.step.0) ∷ [],
      ap (λ (s : BoardSeatView). s.steps) c.in-Ok.ensures.step.2,
    )
    c.args.shared.now.given c.args.self.now.kept c.requires.kept

pub returns-in-Ok-clause-kept : goal.returns-in-Ok-clause-kept
returns-in-Ok-clause-kept g c =
    maps_later c.send.new.seat.steps c.leave.new.seat.steps
    (Gate Left ∷ [], ap (λ (s : BoardSeatView). s.steps) c.leave.ensures)
    c.args.shared.now.given c.send.new.self.kept c.send.ensures.kept

pub returns-in-Closed-clause-kept : goal.returns-in-Closed-clause-kept
returns-in-Closed-clause-kept g c =
    maps_later c.args.seat.now.steps c.enter.new.seat.steps (
      Gate Left ∷ Gate (Turned _) ∷ [],
      ap (λ (s : BoardSeatView). s.steps)
          c.in-Closed.ensures.step.1,
    )
    c.args.shared.now.given c.args.self.now.kept c.requires.kept

pub leave-requires-clause-inside : goal.leave-requires-clause-inside
leave-requires-clause-inside g c =
    sends_inside c.args.shared.now.given
    (record { id = c.in-Some.id; rxq = c.in-Some-queue_of.rxq; cpu = c.stand-cpu.result })
    c.send.result c.args.self.now.table c.send.new.self.table c.enter.new.seat c.send.new.seat
    c.send.ensures.sends
    (ap (λ (s : BoardSeatView). visit (gate_steps s.steps)) c.in-Ok.ensures.step.2)

pub returns-in-Ok-clause-replies : goal.returns-in-Ok-clause-replies
returns-in-Ok-clause-replies g c =
    let sent : Sent =
    record { id = c.in-Some.id; rxq = c.in-Some-queue_of.rxq; cpu = c.stand-cpu.result } in
    let word = c.in-Ok.ensures.step.0 in
    record {
      sent = sent;
      turn = reply_turn c.args.shared.now.given sent c.send.result c.args.self.now.table
          c.send.new.self.table c.enter.new.seat c.send.new.seat c.send.ensures.sends word;
      hint_mid = c.queue_of.new.seat;
      hand = c.in-Some.is;
      queued = c.in-Some-queue_of.ensures;
      replies = replies c.args.shared.now.given sent c.send.result c.args.self.now.table
          c.send.new.self.table c.enter.new.seat c.send.new.seat c.send.ensures.sends
          c.args.self.now.app c.args.self.now.home c.queue_of.new.seat c.stand-cpu.new.seat
          c.stand-cpu.ensures c.args.seat.now c.leave.new.seat word c.in-Ok.ensures.step.1
          c.in-Ok.ensures.step.2 c.leave.ensures;
      notes_sent = c.send.ensures.notes_sent;
      notes_choice = c.send.ensures.notes_choice;
      same = c.send.ensures.same;
    }

pub returns-in-Ok-clause-outside : goal.returns-in-Ok-clause-outside
returns-in-Ok-clause-outside g c = (
  ap (λ (s : BoardSeatView). visit (gate_steps s.steps)) c.leave.ensures,
  ap (λ (s : BoardSeatView). closed (gate_steps s.steps)) c.leave.ensures
      ∙ sends_open c.args.shared.now.given
      (record { id = c.in-Some.id; rxq = c.in-Some-queue_of.rxq; cpu = c.stand-cpu.result })
      c.send.result c.args.self.now.table c.send.new.self.table c.enter.new.seat c.send.new.seat
      c.send.ensures.sends
      (ap (λ (s : BoardSeatView). closed (gate_steps s.steps)) c.in-Ok.ensures.step.2
      ∙ c.requires.outside.1),
)
