use Rattle.pcapng_reader.proofs.Written.{reads_back, keeps_frames}
use Rattle.pcapng_reader.proofs.laws.frames_are_read_back.Goals as goal

pub returns-clause-reads_back : goal.returns-clause-reads_back
returns-clause-reads_back c = reads_back

pub returns-clause-frames : goal.returns-clause-frames
returns-clause-frames c = keeps_frames
