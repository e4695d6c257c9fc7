use Rattle.steer_base.proofs.CountersLemmas.{rounded-number}
use Rattle.steer_base.proofs.laws.rounded_sizes_are_numbers.Goals as goal

pub returns : goal.returns
returns c = rounded-number
