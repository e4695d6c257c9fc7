use Rattle.xps_map.proofs.ServingLemmas.{HasPassing}
use Rattle.xps_map.specs.Maps.{serves_queue}
use Rattle.xps_map.proofs.maps.XpsMaps.search_queue.Given as goal

abbrev pub invariant-loop-tx : goal.invariant-loop-tx
invariant-loop-tx l = HasPassing l.set l.tx (λ tx. serves_queue l.self tx l.rxq)
