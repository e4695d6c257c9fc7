use Rattle.cap_gen.proofs.Flows.{its_flow}
use Rattle.cap_gen.proofs.laws.a_frame_is_of_its_flow.Goals as goal

pub returns : goal.returns
returns c = its_flow
