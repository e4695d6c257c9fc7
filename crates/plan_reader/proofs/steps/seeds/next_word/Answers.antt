use Rattle.std.proofs.Common.{◌≡◌}
use Rattle.plan_reader.proofs.SeedLemmas.{stepped-more}
use Rattle.plan_reader.specs.Seeds.{generator}
use Rattle.plan_reader.proofs.steps.seeds.next_word.Goals as goal

pub returns-clause-next : goal.returns-clause-next
returns-clause-next c =
    stepped-more c.next_word.result c.args.i c.args.words.now c.next_word.new.self
    (generator c.args.seed) c.next_word.ensures c.requires
