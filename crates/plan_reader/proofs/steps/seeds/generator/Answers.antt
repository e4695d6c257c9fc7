use Rattle.std.proofs.Common.{◌∙◌}
use Rattle.plan_reader.proofs.SeedLemmas.{advance-none}
use Rattle.plan_reader.specs.Seeds.{generator}
use Rattle.plan_reader.proofs.steps.seeds.generator.Goals as goal

pub returns-clause-given : goal.returns-clause-given
unfolding generator
returns-clause-given c = c.new.ensures ∙ advance-none (generator c.args.seed)
