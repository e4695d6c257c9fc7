use Rattle.std.proofs.Common.{ap, arith, length}
use Rattle.std.proofs.lemmas.List.{length-map}
use Rattle.steer_base.specs.Counters.{rounded_up}
use Rattle.steer_model.specs.State.Setup.{packet_hash}
use Rattle.std.specs.Prelude.{slice_index}
use Rattle.good_check.proofs.ChoicesLemmas.{is-class, rows-are}
use Rattle.good_check.proofs.PositionsLemmas.{position-known}
use Rattle.good_check.proofs.case.Case.has_chosen.Goals as goal

pub invariant_of-poller : goal.invariant_of-poller
invariant_of-poller c =
    let case = c.args.self.now in
    let queues = case.plan.now.queues in
    record {
      has_home = omega (
        arith,
        c.requires.queue,
        ap (λ p. length p.homes) case.is_setup,
        length-map queues (λ queue. queue.home),
      );
      has_mask = omega (
        arith,
        c.requires.queue,
        ap (λ s. length s.masks) case.is_initial,
        length-map queues (λ queue. queue.mask),
      );
      has_count = omega (
        arith,
        c.requires.queue,
        ap (λ s. length s.counts) case.is_initial,
        length-map queues (λ queue. rounded_up queue.flows),
      );
      are_known =
          position-known case.given.now.packets (length case.plan.now.apps) case.h.now
          c.requires.plain.regular case.known.now case.is_known;
    }

pub are_by_rule-requires : goal.are_by_rule-requires
are_by_rule-requires c = λ d.
    let case = c.args.self.now in
    let rows = rows-are c.in_ok-table.table case.plan.now case.settings.now case.h.now.start
    c.args.q c.from-3.result c.get-3.result.now case.is_initial c.from-3.ensures c.requires.queue
    c.get-3.ensures c.in_ok-table.ensures in
    is-class c.in_ok-table.table (slice_index case.settings.now.counts c.args.q)
    (packet_hash case.given.now d.id) rows.0
