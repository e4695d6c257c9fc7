use Rattle.pcap_reader.proofs.Verdicts.{one_capture, one_fault, not_both, one_of_both}
use Rattle.pcap_reader.proofs.Magic.{magic_is_read}
use Rattle.pcap_reader.proofs.laws.one_capture_or_fault.Goals as goal

pub returns-clause-magic : goal.returns-clause-magic
returns-clause-magic c = magic_is_read

pub returns-clause-one_capture : goal.returns-clause-one_capture
returns-clause-one_capture c = one_capture

pub returns-clause-one_fault : goal.returns-clause-one_fault
returns-clause-one_fault c = one_fault

pub returns-clause-not_both : goal.returns-clause-not_both
returns-clause-not_both c = not_both

pub returns-clause-either : goal.returns-clause-either
returns-clause-either c = one_of_both
