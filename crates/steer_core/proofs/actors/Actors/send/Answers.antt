use Rattle.std.proofs.Common.{◌≤◌, arith, sym, ◌∙◌}
use Rattle.hop_model.specs.Hop.{placed_of, taken_of}
use Rattle.steer_invariant.proofs.Invariant.RowLemmas.{held_send}
use Rattle.steer_invariant.proofs.StepInvariant.ReplyLemmas.{may_send, room_send}
use Rattle.steer_core.proofs.actors.Actors.send.Goals as goal

pub arrive-requires : goal.arrive-requires
arrive-requires c =
    may_send _ c.args.a c.in-Some.id (rw (← c.self.view_is) at c.requires)
    (rw (← c.self.view_is) at (sym c.next_in.ensures ∙ c.in-Some.is)) c.self.invariant.0.kept

pub push-requires-clause-room : goal.push-requires-clause-room
push-requires-clause-room c =
    let room = c.self.invariant.1.sent_room in
    room_send _ c.args.a c.in-Some.id c.self.inside.sent.room (omega arith)
    (rw (← c.self.view_is) at (sym c.next_in.ensures ∙ c.in-Some.is)) c.self.invariant.0.kept

pub invariant_of-self : goal.invariant_of-self
invariant_of-self c =
    let free : taken_of c.self.inside.tx c.args.a ≤ placed_of c.self.inside.tx c.args.a =
    (let p = c.placed.ensures in let t = c.taken.ensures in let f = c.if-placed-taken.false in
    omega arith) in
    rw c.push.ensures (
      held_send _ c.args.a c.in-Some.id c.reply_to-reply.result c.arrive.new.self c.take.new.self
          (rw (← c.self.view_is) at c.requires) free
          (rw (← c.self.view_is) at (sym c.next_in.ensures ∙ c.in-Some.is))
          (rw (← c.self.view_is) at c.reply_to-reply.ensures) c.arrive.ensures.state
          c.take.ensures.state
          c.self.invariant.0,
      c.self.invariant.1,
    )
