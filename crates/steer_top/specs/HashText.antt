-- The text of the command `hash`: a line for each packet, and a line that counts them.
use Rattle.std.specs.Prelude.{ℕ, zero, suc, ◌+◌, List, [], ◌∷◌, ◌++◌, length, codes, decimal}
use Rattle.std.specs.Prelude.{Option, Some, None}
use Rattle.steer_base.specs.declared.flow.Pair.{Pair}
use Rattle.steer_base.specs.declared.flow.Pair.TheVariants.{V4, V6}
use Rattle.steer_base.specs.declared.flow.Proto.{Proto}
use Rattle.steer_base.specs.declared.flow.Proto.TheVariants.{Tcp, Udp}
use Rattle.steer_base.specs.declared.flow.Flow.{Flow}
use Rattle.steer_base.specs.declared.flow.Flow.TheVariants.{Bare, Two, Four}
use Rattle.steer_base.specs.Arrivals.{table_place}
use Rattle.report.specs.Numbers.{hex_digits}
use Rattle.pcap_reader.specs.Captures.{frame_of}
use Rattle.pcap_reader.specs.declared.capture.Capture.{Capture}
use Rattle.pcap_reader.specs.declared.record.PcapRecord.{PcapRecord}
use Rattle.flow_dissector.specs.Frame.{flow_of}
use Rattle.toeplitz.specs.Flows.{hash_of_flow}
use Rattle.toeplitz.specs.Toeplitz.{verification_key}
use Rattle.rss_table.specs.Redirection.{Redirection, even_table, queue_of}

-- The digit of the version of IP.
unfoldable pub version_text : Pair → List ℕ
version_text (V4 src dst) = codes "4 "
version_text (V6 src dst) = codes "6 "

-- The source and the destination address in hexadecimal digits.
unfoldable pub pair_text : Pair → List ℕ
pair_text (V4 src dst) = hex_digits 8 src ++ codes " " ++ hex_digits 8 dst
pair_text (V6 src dst) = hex_digits 32 src ++ codes " " ++ hex_digits 32 dst

-- The text of a protocol.
unfoldable pub proto_text : Proto → List ℕ
proto_text Tcp = codes "tcp"
proto_text Udp = codes "udp"

-- A flow: its kind, its addresses, and its ports where it has them.
unfoldable pub flow_text : Flow → List ℕ
flow_text Bare = codes "none"
flow_text (Two pair) = codes "two" ++ version_text pair ++ pair_text pair
flow_text (Four pair proto sport dport) =
    proto_text proto ++ version_text pair ++ pair_text pair
    ++ codes " " ++ decimal sport ++ codes " " ++ decimal dport

-- The hash and the entry of the redirection table that it is looked up at.
unfoldable pub hash_text : Option ℕ → List ℕ
hash_text None = codes " hash - entry -"
hash_text (Some hash) =
    codes " hash " ++ hex_digits 8 hash ++ codes " entry " ++ decimal (table_place hash)

-- A packet with this number, flow, hash and receive queue, without a line feed.
unfoldable pub packet_text : ℕ → Flow → Option ℕ → ℕ → List ℕ
packet_text number flow hash queue =
    codes "packet " ++ decimal number ++ codes " " ++ flow_text flow ++ hash_text hash
    ++ codes " queue " ++ decimal queue

-- The line of a flow, by the verification key and these kinds and table.
unfoldable pub flow_line : ℕ → Redirection → ℕ → Flow → List ℕ
flow_line kinds table number flow =
    let hash = hash_of_flow verification_key flow kinds in
    packet_text number flow hash (queue_of table hash) ++ codes "\n"

-- The line of a frame, by the verification key and these kinds and table.
unfoldable pub frame_line : ℕ → Redirection → ℕ → List ℕ → List ℕ
frame_line kinds table number frame =
    let hash = hash_of_flow verification_key (flow_of frame) kinds in
    packet_text number (flow_of frame) hash (queue_of table hash) ++ codes "\n"

-- The lines of these records of a file's bytes, numbered from here on, by the line of a frame.
unfoldable pub packet_lines : (ℕ → List ℕ → List ℕ) → List ℕ → ℕ → List PcapRecord → List ℕ
packet_lines line bytes number [] = []
packet_lines line bytes number (r ∷ rs) =
    line number (frame_of bytes r) ++ packet_lines line bytes (number + 1) rs

-- How many packets there are, and how many bytes of a cut one.
unfoldable pub count_line : ℕ → Option ℕ → List ℕ
count_line packets None = codes "packets " ++ decimal packets ++ codes "\n"
count_line packets (Some cut) =
    codes "packets " ++ decimal packets ++ codes " cut " ++ decimal cut ++ codes "\n"

-- The lines of so many packets, by the line of a number.
unfoldable pub numbered_lines : (ℕ → List ℕ) → ℕ → List ℕ
numbered_lines line zero = []
numbered_lines line (suc count) = numbered_lines line count ++ line count

-- The lines of so many packets, and the line that counts them.
unfoldable pub numbered_text : (ℕ → List ℕ) → ℕ → Option ℕ → List ℕ
numbered_text line count cut = numbered_lines line count ++ count_line count cut

-- The lines of a capture's packets, and the line that counts them.
unfoldable pub all_lines : (ℕ → List ℕ → List ℕ) → List ℕ → Capture → List ℕ
all_lines line bytes capture =
    packet_lines line bytes 0 capture.records ++ count_line (length capture.records) capture.cut

-- The text of a capture, by these kinds and the even table over so many queues.
abbrev pub capture_text : ℕ → ℕ → List ℕ → Capture → List ℕ
capture_text queues kinds bytes capture =
    all_lines (frame_line kinds (even_table queues)) bytes capture
