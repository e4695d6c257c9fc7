use Rattle.pcap_reader.proofs.Written.{begins_with_header, grows_by_packet, reads_back}
use Rattle.pcap_reader.proofs.Written.{keeps_frames}
use Rattle.pcap_reader.proofs.laws.captures_read_back.Goals as goal

pub returns-clause-header : goal.returns-clause-header
returns-clause-header c = begins_with_header

pub returns-clause-packet : goal.returns-clause-packet
returns-clause-packet c = grows_by_packet

pub returns-clause-reads_back : goal.returns-clause-reads_back
returns-clause-reads_back c = reads_back

pub returns-clause-frames : goal.returns-clause-frames
returns-clause-frames c = keeps_frames
