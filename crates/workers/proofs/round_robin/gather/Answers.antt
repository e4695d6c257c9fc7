use Rattle.workers.proofs.Names.{arith}
use Rattle.workers.proofs.RoundRobinLemmas.{not-empty, one-less}
use Rattle.workers.proofs.round_robin.gather.Goals as goal

pub loop-left-preserved-in-Some : goal.loop-left-preserved-in-Some
loop-left-preserved-in-Some g c =
    let l = c.loop-left in
    let count = l.hands.ok.0 in
    let len = c.len.ensures in
    record {
      are =
          one-less (λ hand. hand.items) g.items l.hands.items l.all.items l.left c.len.result
          l.invariant.are c.loop-left-test.true (omega (arith, len, count))
          c.index_mut.result.now c.index_mut.ensures.value c.pop.new.self c.in-Some.item
          c.in-Some.ensures.items c.push_reserved.new.self.items c.push_reserved.ensures.items;
      room = let room = l.invariant.room in
          let same = c.push_reserved.ensures.capacity in omega (arith, room, same);
    }

pub loop-left-preserved : goal.loop-left-preserved
loop-left-preserved g c =
    let l = c.loop-left in
    let count = l.hands.ok.0 in
    let len = c.len.ensures in
    let more =
    not-empty (λ hand. hand.items) g.items l.hands.items l.all.items l.left c.len.result
    l.invariant.are c.loop-left-test.true (omega (arith, len, count)) c.index_mut.result.now
    c.index_mut.ensures.value in
    let none = c.in_default.ensures.cases.0 in
    let empty = c.index_mut.result.now.ok.0 in
    absurd (omega (arith, more, none, empty))
