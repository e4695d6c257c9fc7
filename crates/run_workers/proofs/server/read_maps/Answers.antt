use Rattle.run_workers.proofs.Names.{ℕ, ◌<◌, subst, ◌∙◌}
use Rattle.run_workers.proofs.Hands.ReplyLemmas.{maps_inside, maps_next}
use Rattle.run_workers.proofs.server.read_maps.Goals as goal

pub read_map-requires-clause-inside : goal.read_map-requires-clause-inside
read_map-requires-clause-inside g c =
    maps_inside c.args.shared.now.given c.args.seat.now c.requires.inside c.loop-tx.tx
    c.loop-tx.kept.maps c.loop-tx.seat c.loop-tx.invariant.reads

pub loop-tx-preserved : goal.loop-tx-preserved
loop-tx-preserved g c =
    record {
      reads = maps_next c.args.shared.now.given c.args.seat.now c.requires.inside c.loop-tx.tx
          c.loop-tx.kept.maps c.read_map.new.kept.maps c.loop-tx.seat c.read_map.new.seat
          (subst (λ (n : ℕ). c.loop-tx.tx < n) c.txs-count.ensures.value c.loop-tx-test.true)
          c.loop-tx.invariant.reads c.read_map.ensures.reads;
      cpus = c.read_map.ensures.cpus ∙ c.loop-tx.invariant.cpus;
      queues = c.read_map.ensures.queues ∙ c.loop-tx.invariant.queues;
    }
