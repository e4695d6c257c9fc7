use Rattle.std.proofs.Common.{inl, inr, refl}
use Rattle.std.proofs.lemmas.Bool.{cases_Bool}
use Rattle.flow_dissector.specs.Frame.{ip_flow, payload_in}
use Rattle.flow_dissector.specs.Ipv4.{ipv4_flow, ipv4_payload, is_ipv4}
use Rattle.flow_dissector.specs.Ports.{flow_between}
use Rattle.flow_dissector.proofs.laws.ipv4_fragment_has_no_ports.Goals as goal

pub returns-clause-flow : goal.returns-clause-flow
unfolding ip_flow ipv4_flow ipv4_payload flow_between
returns-clause-flow c = λ packet whole cut. rw (whole, cut) refl

pub returns-clause-payload : goal.returns-clause-payload
unfolding payload_in ipv4_payload
returns-clause-payload c = λ packet cut. elim (cases_Bool (is_ipv4 packet)) [
  | inl whole ↦ rw (whole, cut) refl
  | inr other ↦ rw other refl
]
