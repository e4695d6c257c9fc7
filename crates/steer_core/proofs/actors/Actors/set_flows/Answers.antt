use Rattle.std.proofs.Common.{◌≤◌, arith}
use Rattle.steer_invariant.proofs.BelowLemmas.{both-below}
use Rattle.steer_invariant.proofs.StepInvariant.FlowCountLemmas.{may_flows}
use Rattle.steer_invariant.proofs.Invariant.CommandLemmas.{held_flows}
use Rattle.steer_core.proofs.actors.Actors.set_flows.Goals as goal

pub resize-requires : goal.resize-requires
resize-requires c =
    let named = rw (← c.self.view_is) at c.requires.named in
    let done = rw (← c.self.view_is) at c.requires.done in
    let b = both-below c.args.q _ c.args.count 32769 named in
    let few : c.args.count ≤ 32768 = (let lt = b.1 in omega (arith, lt)) in
    rw c.close.ensures.state
    ((may_flows _ c.args.q c.args.count b.0 few done c.self.invariant.0.kept).1.0)

pub invariant_of-self : goal.invariant_of-self
invariant_of-self c = (
  held_flows _ c.args.q c.args.count c.change.new.self c.close.new.self c.resize.new.self
      c.reopen.new.self
      (rw (← c.self.view_is) at c.requires.named) (rw (← c.self.view_is) at c.requires.done)
      c.change.ensures
      c.close.ensures.state c.resize.ensures.state c.reopen.ensures.state c.self.invariant.0,
  c.self.invariant.1,
)
