use Rattle.pcapng_reader.proofs.Examples.{reads_examples}
use Rattle.pcapng_reader.proofs.Files.{truncates_written}
use Rattle.pcapng_reader.proofs.Assembled.{reads_written}
use Rattle.pcapng_reader.proofs.Taken.{written_only}
use Rattle.pcapng_reader.proofs.laws.a_block_is_read_as_written.Goals as goal

pub returns-clause-read : goal.returns-clause-read
returns-clause-read c = reads_written

pub returns-clause-only : goal.returns-clause-only
returns-clause-only c = written_only

pub returns-clause-truncated : goal.returns-clause-truncated
returns-clause-truncated c = truncates_written

pub returns-clause-examples : goal.returns-clause-examples
returns-clause-examples c = reads_examples
