use Rattle.xps_map.proofs.MapsLemmas.{IsInverseOf-no_cpus, IsInverseOf-no_queues}
use Rattle.xps_map.proofs.inverse.Inverse.empty.Goals as goal

pub returns : goal.returns
returns c = λ count. record {
  cpus = IsInverseOf-no_cpus count 32;
  queues = IsInverseOf-no_queues count 16;
}
