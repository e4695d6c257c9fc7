use Rattle.std.proofs.lemmas.List.{reverse-reverse}
use Rattle.rtrb.specs.Ring.{known_items}
use Rattle.workers.proofs.Names.{◌++◌, ◌∷◌, [], length, reverse, refl, sym, ap, ◌∙◌, length-map}
use Rattle.workers.proofs.RingLemmas.{next-settled, none-settled, ring-pair}
use Rattle.workers.proofs.TakenLemmas.{taken-at, taken-part, taken-whole}
use Rattle.workers.proofs.lists.take_queues.Goals as goal

pub loop-poller-init : goal.loop-poller-init
loop-poller-init c =
    record {
      front = [];
      whole = ap reverse c.reverse.ensures.items ∙ reverse-reverse _;
      taken = c.requires.taken;
      choices = c.requires.choices;
      settled = none-settled c.args.wire.now;
    }

pub slots_beside-requires : goal.slots_beside-requires
slots_beside-requires c =
    let inv = c.loop-poller.invariant in
    let x = c.in-Some.poller in
    let count = ap (λ j. length j.items) inv.taken ∙ length-map inv.front _ in
    let at = taken-at inv.front _ _ _ x c.in-Some.ensures.items inv.whole in
    ring-pair _ _ inv.front _ x c.requires.pairs inv.settled at c.len-queue.result
    (c.len-queue.ensures.len ∙ count) c.index_mut.result.now c.index_mut.ensures.value

pub loop-poller-preserved : goal.loop-poller-preserved
loop-poller-preserved c =
    let inv = c.loop-poller.invariant in
    let x = c.in-Some.poller in
    let count = ap (λ j. length j.items) inv.taken ∙ length-map inv.front _ in
    let at = taken-at inv.front _ _ _ x c.in-Some.ensures.items inv.whole in
    let seen = c.slots_beside.ensures in
    record {
      front = inv.front ++ x ∷ [];
      whole = taken-whole inv.front _ _ _ x c.in-Some.ensures.items inv.whole;
      taken =
          taken-part (λ p. length p.choices.items) inv.front x _ _ _ _ inv.taken c.push.ensures
          c.len.ensures.len;
      choices =
          taken-part (λ p. p.choices.items) inv.front x _ _ _ _ inv.choices c.push-in-Some.ensures
          (c.from_vec.ensures ∙ c.into_vec.ensures);
      settled =
          next-settled _ _ inv.front _ x c.requires.pairs inv.settled at c.len-queue.result
          (c.len-queue.ensures.len ∙ count) c.index_mut.result.now c.index_mut.ensures.value _
          c.slots_beside.new.producer refl (known_items c.slots_beside.new.self)
          (ap (λ xs. xs ++ known_items c.slots_beside.new.self) (sym seen.looked.1)
          ∙ (seen.fifo ∙ seen.producer.1));
    }
