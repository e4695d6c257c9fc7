-- The rows of a report: its sections, one after the other.
use Rattle.std.specs.Prelude.{ℕ, suc, List, [], ◌∷◌, ◌++◌, Option, codes, length, map, slice_index}
use Rattle.std.specs.List.{filter_map}
use Rattle.std.specs.Option.{option_map}
use Rattle.steer_base.specs.declared.packet.Packet.{Packet}
use Rattle.history.specs.Lines.{LineLists, lines_of}
use Rattle.history.specs.declared.commanded.Commanded.{Commanded}
use Rattle.history.specs.declared.history.History.{History}
use Rattle.history.specs.declared.lane_list.LaneList.{LaneList}
use Rattle.history.specs.declared.packet_line.PacketLine.{PacketLine}
use Rattle.history.specs.declared.reply_line.ReplyLine.{ReplyLine}
use Rattle.history.specs.declared.sock_write.SockWrite.{SockWrite}
use Rattle.report.specs.Commands.{command_row}
use Rattle.report.specs.Lines.{packet_row, reply_row, queue_row, cpu_row, tx_row, write_row}
use Rattle.report.specs.Lines.{end_row}
use Rattle.report.specs.Texts.{Row, text_of}
use Rattle.report.specs.Texts.Row.{Line, Tap}

-- a row for each item of a list, numbered from n
abbrev pub numbered : {A : Type 0} → (ℕ → A → Row) → ℕ → List A → List Row
numbered row n [] = []
numbered row n (a ∷ rest) = row n a ∷ numbered row (suc n) rest

-- the first row of a report
abbrev pub first_row : Row
first_row = Line (codes "steer") (codes "1" ∷ [])

-- the rows of the packets that arrived, in packet order
abbrev pub packet_rows : List PacketLine → List Row
packet_rows lines = map packet_row lines

-- the rows of the replies that were begun, in packet order
abbrev pub reply_rows : List (Option ReplyLine) → List Row
reply_rows lines = filter_map (λ line. option_map reply_row line) lines

-- the rows of the receive queues
abbrev pub queue_rows : List ℕ → List ℕ → List Row
queue_rows arrived taken =
    numbered (λ queue count. queue_row queue (slice_index arrived queue) count) 0 taken

-- the rows of the processors
abbrev pub cpu_rows : List LaneList → List Row
cpu_rows lanes = numbered cpu_row 0 lanes

-- the rows of the transmit queues
abbrev pub tx_rows : List LaneList → List Row
tx_rows lanes = numbered tx_row 0 lanes

-- the rows of the writes to the socket flow table, of the applications from this one on
abbrev pub write_rows : ℕ → List (List SockWrite) → List Row
write_rows app [] = []
write_rows app (writes ∷ rest) = map (write_row app) writes ++ write_rows (suc app) rest

-- the rows of the commands, in order
abbrev pub command_rows : List Commanded → List Row
command_rows commands = numbered command_row 0 commands

-- the rows of the taps, by their numbers
abbrev pub tap_rows : List (List ℕ) → List Row
tap_rows texts = numbered Tap 0 texts

-- the rows of a report, from a history, the lines of its packets and replies, and the texts of its
-- taps
abbrev pub rows_of : LineLists → History → List (List ℕ) → List Row
rows_of lines h texts =
    first_row
    ∷ (packet_rows lines.packets
    ++ (reply_rows lines.replies
    ++ (queue_rows lines.arrived h.taken
    ++ (cpu_rows h.lanes
    ++ (tx_rows h.tx_lanes
    ++ (write_rows 0 h.writes
    ++ (command_rows h.commands
    ++ (tap_rows texts
    ++ (end_row (length h.arrivals) h.total h.cut ∷ [])))))))))

-- the report of a history with the texts of its taps, for the packets of the capture and a number
-- of applications
abbrev pub report : List Packet → ℕ → History → List (List ℕ) → List ℕ
report packets apps h texts = text_of (rows_of (lines_of packets apps h) h texts)
