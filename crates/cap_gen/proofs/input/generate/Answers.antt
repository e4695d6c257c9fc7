use Rattle.cap_gen.proofs.Captures.{has_capture}
use Rattle.cap_gen.proofs.input.generate.Goals as goal

pub returns-clause-capture : goal.returns-clause-capture
returns-clause-capture c =
    has_capture c.args.seed c.args.flows c.args.packets _ c.captures_read_back.ensures.reads_back
    c.requires.few_packets c.in_ok-capture.ensures
