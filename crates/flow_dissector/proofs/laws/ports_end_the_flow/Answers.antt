use Rattle.flow_dissector.proofs.Longer.{flow_of-append}
use Rattle.flow_dissector.proofs.laws.ports_end_the_flow.Goals as goal

pub returns : goal.returns
returns c = flow_of-append
