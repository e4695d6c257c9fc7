use Rattle.pcapng_reader.proofs.Passing.{begins_more, passed_more, fills_bytes, captures_all}
use Rattle.pcapng_reader.proofs.Passing.{captures_cut}
use Rattle.pcapng_reader.proofs.laws.a_walker_passes_blocks.Goals as goal

pub returns-clause-begins : goal.returns-clause-begins
returns-clause-begins c = begins_more

pub returns-clause-more : goal.returns-clause-more
returns-clause-more c = passed_more

pub returns-clause-fills : goal.returns-clause-fills
returns-clause-fills c = fills_bytes

pub returns-clause-all : goal.returns-clause-all
returns-clause-all c = captures_all

pub returns-clause-cut : goal.returns-clause-cut
returns-clause-cut c = captures_cut
