use Rattle.pcap_reader.proofs.Rows.{within_result}
use Rattle.pcap_reader.proofs.Verdicts.{complete_result, exact_result}
use Rattle.pcap_reader.proofs.read.read_capture.Goals as goal

pub returns-clause-complete : goal.returns-clause-complete
returns-clause-complete c =
    complete_result c.args.bytes.now c.read_file.result c.read_file.ensures.found
    c.read_file.ensures.fault

pub returns-clause-exact : goal.returns-clause-exact
returns-clause-exact c = exact_result c.args.bytes.now c.read_file.result c.read_file.ensures.found
    c.read_file.ensures.fault

pub returns-clause-within : goal.returns-clause-within
returns-clause-within c =
    within_result c.args.bytes.now c.read_file.result c.read_file.ensures.found
