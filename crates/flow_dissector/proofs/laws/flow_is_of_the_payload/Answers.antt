use Rattle.std.proofs.Common.{refl}
use Rattle.flow_dissector.specs.Frame.{ip_flow, payload_in}
use Rattle.flow_dissector.specs.Ipv4.{ipv4_flow}
use Rattle.flow_dissector.specs.Ipv6.{ipv6_flow}
use Rattle.flow_dissector.proofs.laws.flow_is_of_the_payload.Goals as goal

pub returns-clause-ipv4 : goal.returns-clause-ipv4
unfolding ip_flow payload_in ipv4_flow
returns-clause-ipv4 c = λ packet whole. rw whole refl

pub returns-clause-ipv6 : goal.returns-clause-ipv6
unfolding ip_flow payload_in ipv6_flow
returns-clause-ipv6 c = λ packet whole. rw whole refl
