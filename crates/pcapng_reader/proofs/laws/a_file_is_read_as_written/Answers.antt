use Rattle.pcapng_reader.proofs.Files.{reads_written_files}
use Rattle.pcapng_reader.proofs.laws.a_file_is_read_as_written.Goals as goal

pub returns : goal.returns
returns c = reads_written_files
