use Rattle.std.proofs.Common.{◌≡◌, ◌<◌, ◌^◌, length, IsSome, option_map}
use Rattle.plan_reader.specs.Texts.{numbers_of, parts, merged_from}
use Rattle.plan_reader.proofs.steps.set.bits_of_list.Given as goal

abbrev pub invariant-parts : goal.invariant-parts
invariant-parts l =
    IsSome (numbers_of (parts l.rest)) × (l.bits < 2 ^ l.limit)
    × (option_map (merged_from l.limit l.bits) (numbers_of (parts l.rest)) ≡ option_map
    (merged_from l.limit 0) (numbers_of (parts l.token)))

abbrev pub decreases-parts : goal.decreases-parts
decreases-parts l = length l.rest
