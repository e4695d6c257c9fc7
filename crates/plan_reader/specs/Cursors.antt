-- A place among the steps of a plan.
use Rattle.std.specs.Prelude.{◌≡◌}
use Rattle.rand_pcg.specs.Lcg.{advance}
use Rattle.rand_pcg.specs.Pcg.{multiplier_64}
use Rattle.plan_reader.specs.Seeds.{generator}
use Rattle.plan_reader.specs.declared.plan.Steps.{Steps}
use Rattle.plan_reader.specs.declared.plan.Steps.TheVariants as steps
use Rattle.plan_reader.specs.declared.steps.cursor.StepCursor.{StepCursor}

-- The generator of a place has given as many words of the seed as steps were made. For a list
-- nothing is asked of it.
abbrev pub HasGiven : Steps → StepCursor → Type 0
HasGiven (steps.List list) cursor = Unit {0}
HasGiven (steps.Seed seed count) cursor =
    cursor.words ≡ advance 64 multiplier_64 cursor.made (generator seed)
