use Rattle.steer_core.proofs.CountLemmas.{counted_new}
use Rattle.steer_core.proofs.steering.Steering.make.Goals as goal

pub invariant_of-result : goal.invariant_of-result
invariant_of-result c =
    rw (c.in_ok-actors.ensures, c.step_count.ensures) (
      counted_new c.args.plan.now c.args.packets.now c.args.cut,
      λ rests. absurd (cc),
    )
