use Rattle.std.proofs.Common.{◌+◌, ◌-◌, length}
use Rattle.ntuple_rules.specs.Sieves.{AllowsMore}
use Rattle.ntuple_rules.proofs.sieve.make_up_to.Given as goal

-- the sieves allow what they allowed
abbrev pub invariant-loop-alloc : goal.invariant-loop-alloc
invariant-loop-alloc l = AllowsMore l.initial.sieves.items l.sieves.items

abbrev pub decreases-loop-alloc : goal.decreases-loop-alloc
decreases-loop-alloc l = l.index + 1 - length l.sieves.items
