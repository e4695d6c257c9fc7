-- The three parts in which a report is written.
use Rattle.std.specs.Prelude.{ℕ, List, ◌++◌, length}
use Rattle.history.specs.Lines.{LineLists}
use Rattle.history.specs.declared.history.History.{History}
use Rattle.report.specs.Lines.{end_row}
use Rattle.report.specs.Report.{command_rows, cpu_rows, first_row, packet_rows, queue_rows}
use Rattle.report.specs.Report.{reply_rows, tap_rows, tx_rows, write_rows}
use Rattle.report.specs.Texts.{row_text, text_of}

-- the first part of a report: the first line, the packets and the replies
abbrev pub packets_text : LineLists → List ℕ
packets_text lines =
    row_text first_row
    ++ (text_of (packet_rows lines.packets) ++ text_of (reply_rows lines.replies))

-- the second part of a report: the receive queues, the processors and the transmit queues
abbrev pub sums_text : LineLists → History → List ℕ
sums_text lines h =
    text_of (queue_rows lines.arrived h.taken)
    ++ (text_of (cpu_rows h.lanes) ++ text_of (tx_rows h.tx_lanes))

-- the third part of a report: the socket writes, the commands, the taps and the last line
abbrev pub events_text : History → List (List ℕ) → List ℕ
events_text h texts =
    text_of (write_rows 0 h.writes)
    ++ (text_of (command_rows h.commands)
    ++ (text_of (tap_rows texts) ++ row_text (end_row (length h.arrivals) h.total h.cut)))
