use Rattle.hop_model.specs.declared.event.HopEvent.TheVariants as event
use Rattle.hop_core.proofs.Wholes.{sizes_stay}
use Rattle.hop_core.proofs.hop.Hop.step.Goals as goal

pub returns-in-Leave-clause-sizes : goal.returns-in-Leave-clause-sizes
returns-in-Leave-clause-sizes c =
    sizes_stay c.args.self.now c.leave.new.self (event.Leave _) c.leave.ensures.state

pub returns-in-Weigh-clause-sizes : goal.returns-in-Weigh-clause-sizes
returns-in-Weigh-clause-sizes c =
    sizes_stay c.args.self.now c.weigh.new.self (event.Weigh _ _ _ _ _) c.weigh.ensures.state

pub returns-in-Put-clause-sizes : goal.returns-in-Put-clause-sizes
returns-in-Put-clause-sizes c =
    sizes_stay c.args.self.now c.put.new.self (event.Put _ _) c.put.ensures.state
