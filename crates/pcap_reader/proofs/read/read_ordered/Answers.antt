use Rattle.pcap_reader.proofs.read.read_ordered.Goals as goal

pub returns-then-big-clause-found : goal.returns-then-big-clause-found
returns-then-big-clause-found c = rw c.if-big.true c.read_records.ensures.found

pub returns-then-big-clause-fault : goal.returns-then-big-clause-fault
returns-then-big-clause-fault c = rw c.if-big.true c.read_records.ensures.fault

pub returns-else-big-clause-found : goal.returns-else-big-clause-found
returns-else-big-clause-found c = rw c.if-big.false c.read_records-else-big.ensures.found

pub returns-else-big-clause-fault : goal.returns-else-big-clause-fault
returns-else-big-clause-fault c = rw c.if-big.false c.read_records-else-big.ensures.fault
