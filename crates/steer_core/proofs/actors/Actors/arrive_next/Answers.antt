use Rattle.std.proofs.Common.{◌<◌, arith, length}
use Rattle.steer_core.proofs.ArriveLemmas.{held_come, may_come}
use Rattle.steer_core.proofs.actors.Actors.arrive_next.Goals as goal

pub arrive-requires : goal.arrive-requires
arrive-requires c =
    let next = c.len-next.ensures.len in
    let many = c.packet_count.ensures.value in
    let more = c.if-next-packet_count.false in
    let few : length c.self.inside.arrivals.items < length c.self.inside.given.packets =
    omega arith in
    may_come _ c.arriving-arrival.result _ _
    (rw (← c.self.view_is, next) at c.arriving-arrival.ensures)
    c.queue.view_is next few c.self.invariant.0

pub push-requires : goal.push-requires
push-requires c =
    let room = c.self.invariant.1.arrivals_room in
    let next = c.len-next.ensures.len in
    let many = c.packet_count.ensures.value in
    let more = c.if-next-packet_count.false in
    omega arith

pub invariant_of-self : goal.invariant_of-self
invariant_of-self c =
    let next = c.len-next.ensures.len in
    let many = c.packet_count.ensures.value in
    let more = c.if-next-packet_count.false in
    let few : length c.self.inside.arrivals.items < length c.self.inside.given.packets =
    omega arith in
    rw c.push.ensures (
      held_come _ c.arriving-arrival.result _ _
          (rw (← c.self.view_is, next) at c.arriving-arrival.ensures)
          c.queue.view_is next few c.self.invariant.0
          c.arrive.new.self
          c.arrive.ensures.state,
      c.self.invariant.1,
    )
