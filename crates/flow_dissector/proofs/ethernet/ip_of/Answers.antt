use Rattle.std.proofs.Common.{rules, None, Some}
use Rattle.flow_dissector.specs.Ethernet.{packet_in}
use Rattle.flow_dissector.proofs.Found.{ip_at_found}
use Rattle.flow_dissector.proofs.ethernet.ip_of.Goals as goal

pub returns-then-frame-lt-ADDRESSES_AND_TYPE-clause-at
    : goal.returns-then-frame-lt-ADDRESSES_AND_TYPE-clause-at
unfolding packet_in
returns-then-frame-lt-ADDRESSES_AND_TYPE-clause-at c = ip_at_found c.args.frame.now None
    (search rules) tt

pub returns-in-Some-clause-at : goal.returns-in-Some-clause-at
unfolding packet_in
returns-in-Some-clause-at c = ip_at_found c.args.frame.now (Some c.in-Some.at) (search rules)
    (search rules)

pub returns-in_default-clause-at : goal.returns-in_default-clause-at
unfolding packet_in
returns-in_default-clause-at c = ip_at_found c.args.frame.now None (search rules) tt

pub returns-in_default-2-clause-at : goal.returns-in_default-2-clause-at
unfolding packet_in
returns-in_default-2-clause-at c = ip_at_found c.args.frame.now None (search rules) tt
