use Rattle.std.proofs.Common.{◌≡◌, ◌++◌, ◌-◌, length, take, replicate}
use Rattle.xps_map.specs.Maps.{no_cpus}
use Rattle.xps_map.proofs.maps.XpsMaps.from_lists.Given as goal

abbrev pub invariant-loop-tx : goal.invariant-loop-tx
invariant-loop-tx l = l.maps ≡ record {
  count = length l.cpus;
  cpus = take l.tx l.cpus ++ replicate (length l.cpus - l.tx) no_cpus;
  queues = take l.tx l.queues ++ replicate (length l.cpus - l.tx) 0;
}
