use Rattle.steer_model.proofs.Capture.PacketLemmas.{packets_are_of_flows}
use Rattle.steer_model.proofs.laws.packets_are_of_flows.Goals as goal

pub returns : goal.returns
returns c = packets_are_of_flows
