use Rattle.std.proofs.Common.{◌≡◌, slice_index, ap, ◌∙◌, arith}
use Rattle.steer_base.specs.Sets.{has, members}
use Rattle.steer_base.proofs.FirstLemmas.{has-members, members-here, members-left, members-next}
use Rattle.steer_base.proofs.cpu_mask.CpuMask.nth.Goals as goal

pub lowest-requires : goal.lowest-requires
lowest-requires c =
    members-left c.args.self c.loop.rest c.loop.counter c.loop.invariant (omega arith)

pub loop-preserved : goal.loop-preserved
loop-preserved c =
    ap members (c.without-rest.ensures.value c.lowest.ensures.within)
    ∙ members-next c.args.self c.loop.rest c.loop.counter c.lowest.result _ c.loop.invariant
    (omega arith) c.lowest.ensures.first

pub lowest-requires-2 : goal.lowest-requires-2
lowest-requires-2 c =
    members-left c.args.self c.loop.rest c.loop.counter c.loop.invariant (omega arith)

pub returns-clause-value : goal.returns-clause-value
returns-clause-value c =
    let here : c.loop.counter ≡ c.args.index = omega arith in
    members-here c.args.self c.loop.rest c.loop.counter c.lowest-2.result _ c.loop.invariant
    (omega arith) c.lowest-2.ensures.first
    ∙ ap (slice_index (members c.args.self)) here

pub returns-clause-member : goal.returns-clause-member
returns-clause-member c =
    ap (has c.args.self) (returns-clause-value c)
    ∙ has-members c.args.self c.args.index c.requires
