use Rattle.steer_model.proofs.Capture.FlowLemmas.{flows_are_counted}
use Rattle.steer_model.proofs.laws.flows_are_counted.Goals as goal

pub returns : goal.returns
returns c = flows_are_counted
