use Rattle.std.proofs.Common.{ℕ, ◌≡◌, take}
use Rattle.std.specs.Prelude.{◌==◌, ◌&&◌, nat_lt}
use Rattle.std.specs.List.{list_any}
use Rattle.steer_base.specs.Sets.{has}
use Rattle.steer_base.proofs.cpu_mask.CpuMask.from_cpus.Given as goal

abbrev pub invariant-loop-cpu : goal.invariant-loop-cpu
invariant-loop-cpu l =
    (cpu : ℕ) → has l.mask cpu ≡ (nat_lt cpu 32 && list_any (λ other. other == cpu)
    (take l.cpu-index l.cpus))
