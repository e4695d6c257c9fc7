use Rattle.std.proofs.Common.{arith}
use Rattle.steer_base.proofs.FirstLemmas.{has-lowest, lowest-lt, members-lowest}
use Rattle.steer_base.proofs.cpu_mask.CpuMask.lowest.Goals as goal

pub returns-clause-within : goal.returns-clause-within
returns-clause-within c = lowest-lt c.args.self (omega arith) c.requires

pub returns-clause-member : goal.returns-clause-member
returns-clause-member c = has-lowest c.args.self (omega arith) c.requires

pub returns-clause-first : goal.returns-clause-first
returns-clause-first c = members-lowest c.args.self (omega arith) c.requires
