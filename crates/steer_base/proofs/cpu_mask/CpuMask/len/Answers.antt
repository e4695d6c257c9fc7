use Rattle.std.proofs.Common.{arith}
use Rattle.steer_base.proofs.MasksLemmas.{count_ones-members}
use Rattle.steer_base.proofs.cpu_mask.CpuMask.len.Goals as goal

pub returns-clause-value : goal.returns-clause-value
returns-clause-value c = count_ones-members c.args.self (omega arith)
