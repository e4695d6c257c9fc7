use Rattle.workers.proofs.Names.{◌∷◌, [], ap, sym, ◌∙◌, arith, length, length-append, received}
use Rattle.workers.proofs.Names.{IsFirstPoller}
use Rattle.workers.proofs.EachLemmas.{each_end, each_of_none}
use Rattle.workers.proofs.FirstLemmas.{is_first_poller, paired_end, unpaired}
use Rattle.workers.proofs.actors.queues.Goals as goal

pub loop-queue-init : goal.loop-queue-init
loop-queue-init c =
    let none = c.in_ok-rings.ensures.items in
    let nobody = c.in_ok-pollers.ensures.items in
    record {
      rings = unpaired c.args.room _ _ none nobody;
      count = ap length nobody;
      first = each_of_none _ _ nobody;
    }

pub loop-queue-preserved : goal.loop-queue-preserved
loop-queue-preserved c =
    let l = c.loop-queue in
    let i = c.loop-queue.invariant in
    let r = c.in_ok-producer in
    let p = c.in_ok-make.field-0 in
    let m = c.in_ok-make.ensures in
    let pushed = c.in_ok-push-2.ensures.items in
    let less = c.loop-queue-test.true in
    let all = c.len-count.ensures in
    record {
      rings =
          rw (c.in_ok-push.ensures.items, pushed)
          (paired_end c.args.room l.rings.items l.pollers.items r.producer p i.rings
          r.ensures.producer.0 r.ensures.producer.1 (rw m.ring r.ensures.pair));
      count =
          let more = length-append l.pollers.items (p ∷ []) in
          let size = ap length pushed in
          let many = i.count in
          omega (arith, more, size, many);
      first =
          rw pushed
          (each_end (IsFirstPoller c.args.plan.now c.args.room) l.pollers.items l.queue p
          (sym i.count) i.first
          (is_first_poller c.args.plan.now c.args.room l.queue c.get.result.now p
          (omega (arith, less, all)) c.get.ensures m.queue
          (ap received m.ring ∙ r.ensures.consumer.0) m.hand m.flows m.table m.choices m.accepted
          m.kept m.is));
    }

pub returns : goal.returns
returns c =
    let i = c.loop-queue.invariant in
    let end = c.loop-queue.auto.queue-end in
    let past = c.loop-queue-test.false in
    let all = c.len-count.ensures in
    let many = i.count in
    record {
      rings = i.rings;
      count = omega (arith, end, past, all, many);
      first = i.first;
    }
