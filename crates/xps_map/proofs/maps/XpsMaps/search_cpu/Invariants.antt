use Rattle.xps_map.proofs.ServingLemmas.{HasPassing}
use Rattle.xps_map.specs.Maps.{serves_cpu}
use Rattle.xps_map.proofs.maps.XpsMaps.search_cpu.Given as goal

abbrev pub invariant-loop-tx : goal.invariant-loop-tx
invariant-loop-tx l = HasPassing l.set l.tx (λ tx. serves_cpu l.self tx l.fn.cpu)
