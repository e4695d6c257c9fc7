use Rattle.run_workers.specs.Hands.Servers.{MapsRead}
use Rattle.run_workers.proofs.Names.{◌≡◌, length}
use Rattle.run_workers.proofs.server.read_maps.Given as goal

abbrev pub invariant-loop-tx : goal.invariant-loop-tx
invariant-loop-tx g l = record {
  reads : MapsRead l.fn.shared.given l.tx l.kept.maps l.fn.seat l.seat;
  cpus : l.kept.cpus ≡ l.fn.shared.given.cpus;
  queues : l.kept.queues ≡ length l.fn.shared.given.homes;
}
