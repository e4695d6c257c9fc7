use Rattle.std.proofs.Common.{rules, None}
use Rattle.flow_dissector.specs.Frame.{payload_in}
use Rattle.flow_dissector.proofs.Found.{payload_at_found}
use Rattle.flow_dissector.proofs.frame.payload_of.Goals as goal

pub returns-then-is_ipv4-clause-at : goal.returns-then-is_ipv4-clause-at
unfolding payload_in
returns-then-is_ipv4-clause-at c =
    payload_at_found c.args.kind c.args.packet.now c.ipv4_payload.result
    (search rules) c.ipv4_payload.ensures.within

pub returns-then-is_ipv6-clause-at : goal.returns-then-is_ipv6-clause-at
unfolding payload_in
returns-then-is_ipv6-clause-at c =
    payload_at_found c.args.kind c.args.packet.now c.ipv6_payload.result
    (search rules) c.ipv6_payload.ensures.within

pub returns-else-kind-eq-ETHERTYPE_IPV6-clause-at
    : goal.returns-else-kind-eq-ETHERTYPE_IPV6-clause-at
unfolding payload_in
returns-else-kind-eq-ETHERTYPE_IPV6-clause-at c =
    payload_at_found c.args.kind c.args.packet.now None (search rules) tt
