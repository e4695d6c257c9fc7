use Rattle.std.proofs.Common.{ℕ, List, ap₂}
use Rattle.std.proofs.lemmas.List.{take-replicate}
use Rattle.steer_base.specs.declared.cpu_mask.CpuMask.{CpuMask}
use Rattle.xps_map.specs.Maps.{Maps, no_cpus}
use Rattle.xps_map.proofs.maps.XpsMaps.make.Goals as goal

pub returns : goal.returns
returns c =
    let count = c.args.queues in
    let maps : List CpuMask → List ℕ → Maps = λ cpus queues. record {
      count = count;
      cpus = cpus;
      queues = queues;
    } in
    ap₂ maps (take-replicate count 32 no_cpus c.requires.few)
    (take-replicate count 32 0 c.requires.few)
