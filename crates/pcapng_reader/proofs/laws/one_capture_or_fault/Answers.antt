use Rattle.pcapng_reader.proofs.Verdicts.{one_capture, one_fault, not_both, one_of_both}
use Rattle.pcapng_reader.proofs.Wants.{is_no_want}
use Rattle.pcapng_reader.proofs.laws.one_capture_or_fault.Goals as goal

pub returns-clause-one_capture : goal.returns-clause-one_capture
returns-clause-one_capture c = one_capture

pub returns-clause-one_fault : goal.returns-clause-one_fault
returns-clause-one_fault c = one_fault

pub returns-clause-not_both : goal.returns-clause-not_both
returns-clause-not_both c = not_both

pub returns-clause-either : goal.returns-clause-either
returns-clause-either c = one_of_both

pub returns-clause-memory : goal.returns-clause-memory
returns-clause-memory c = is_no_want
