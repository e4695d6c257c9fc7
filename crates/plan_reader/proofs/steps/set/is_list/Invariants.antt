use Rattle.std.proofs.Common.{◌≡◌, length}
use Rattle.std.specs.Prelude.{is_some}
use Rattle.plan_reader.specs.Texts.{numbers_of, parts}
use Rattle.plan_reader.proofs.steps.set.is_list.Given as goal

abbrev pub invariant-parts : goal.invariant-parts
invariant-parts l = is_some (numbers_of (parts l.rest)) ≡ is_some (numbers_of (parts l.token))

abbrev pub decreases-parts : goal.decreases-parts
decreases-parts l = length l.rest
