use Rattle.std.proofs.Common.{◌≡◌, drop}
use Rattle.steer_base.specs.Sets.{members}
use Rattle.steer_base.proofs.cpu_mask.CpuMask.nth.Given as goal

abbrev pub invariant-loop : goal.invariant-loop
invariant-loop l = members l.rest ≡ drop l.counter (members l.fn.self)
