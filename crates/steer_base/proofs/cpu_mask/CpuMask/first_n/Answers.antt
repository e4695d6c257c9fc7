use Rattle.steer_base.proofs.MasksLemmas.{has-first_shift}
use Rattle.steer_base.proofs.cpu_mask.CpuMask.first_n.Goals as goal

pub returns-clause-members : goal.returns-clause-members
returns-clause-members c = λ cpu. has-first_shift c.args.count cpu c.requires
