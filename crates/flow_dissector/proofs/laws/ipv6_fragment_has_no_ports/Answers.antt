use Rattle.std.proofs.Common.{inl, inr, refl}
use Rattle.std.proofs.lemmas.Bool.{cases_Bool}
use Rattle.flow_dissector.specs.Frame.{ip_flow, payload_in}
use Rattle.flow_dissector.specs.Ipv6.{ipv6_flow, ipv6_payload, is_ipv6}
use Rattle.flow_dissector.specs.Ports.{flow_between}
use Rattle.flow_dissector.proofs.laws.ipv6_fragment_has_no_ports.Goals as goal

pub returns-clause-flow : goal.returns-clause-flow
unfolding ip_flow ipv6_flow ipv6_payload flow_between
returns-clause-flow c = λ packet rest whole cut. rw (whole, cut) refl

pub returns-clause-payload : goal.returns-clause-payload
unfolding payload_in ipv6_payload
returns-clause-payload c = λ packet rest cut. elim (cases_Bool (is_ipv6 packet)) [
  | inl whole ↦ rw (whole, cut) refl
  | inr other ↦ rw other refl
]
