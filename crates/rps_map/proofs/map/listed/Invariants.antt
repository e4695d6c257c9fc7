use Rattle.std.proofs.Common.{◌≡◌, drop, take}
use Rattle.steer_base.specs.Sets.{members}
use Rattle.rps_map.proofs.map.listed.Given as goal

abbrev pub invariant-loop-place : goal.invariant-loop-place
invariant-loop-place l = record {
  rest : members l.rest ≡ drop l.place (members l.fn.mask);
  cpus : take l.place l.cpus ≡ take l.place (members l.fn.mask);
}
