use Rattle.std.proofs.lemmas.Nat.{one_shl}
use Rattle.steer_base.proofs.MasksLemmas.{has-with_cpu}
use Rattle.steer_base.proofs.cpu_mask.CpuMask.with.Goals as goal

pub returns-then-cpu-lt32-clause-members : goal.returns-then-cpu-lt32-clause-members
returns-then-cpu-lt32-clause-members c = λ other.
    rw (← c.cpu.view_is, one_shl c.cpu.inside.0 32 c.if-cpu-lt32.true)
    (has-with_cpu c.args.self c.cpu.inside.0 other c.if-cpu-lt32.true)
