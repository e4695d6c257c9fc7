use Rattle.pcapng_reader.proofs.Verdicts.{complete_result, exact_result}
use Rattle.pcapng_reader.proofs.read.read_ng.Goals as goal

pub returns-clause-complete : goal.returns-clause-complete
returns-clause-complete c =
    complete_result c.args.bytes.now c.read_file.result c.read_file.ensures.found
    c.read_file.ensures.fault

pub returns-clause-exact : goal.returns-clause-exact
returns-clause-exact c = exact_result c.args.bytes.now c.read_file.result c.read_file.ensures.found
    c.read_file.ensures.fault
