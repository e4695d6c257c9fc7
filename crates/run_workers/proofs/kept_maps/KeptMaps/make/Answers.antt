use Rattle.run_workers.proofs.Names.{◌≡◌, arith}
use Rattle.run_workers.proofs.Hands.KeptLemmas.{starts}
use Rattle.run_workers.proofs.kept_maps.KeptMaps.make.Goals as goal

pub invariant_of-result : goal.invariant_of-result
invariant_of-result c =
    let all : c.from-count.result ≡ c.args.txs = omega arith in
    starts c.args.cpus c.args.queues c.args.txs c.requires.cpus c.requires.queues c.requires.few
    c.from_lists.result c.from-count.result all c.from_lists.ensures
