-- The sections of a report are read one after the other.
use Rattle.std.proofs.Common.{ℕ, suc, zero, ◌≡◌, ◌≤◌, ◌<◌, ◌+◌, ◌^◌, ◌++◌, List, [], ◌∷◌, Option}
use Rattle.std.proofs.Common.{Some, None, length, map, drop, refl, ap, sym, arith}
use Rattle.std.specs.Prelude.{codes, slice_index}
use Rattle.std.specs.List.{All, range_with_len}
use Rattle.std.specs.Option.{IfSome}
use Rattle.std.proofs.lemmas.List.{length-append, length-drop, length-map}
use Rattle.std.proofs.lemmas.List.Elements.{All-head, All-tail}
use Rattle.steer_base.specs.Apps.{app_of}
use Rattle.steer_base.specs.declared.packet.Packet.{Packet}
use Rattle.history.specs.Lines.{LineLists, line_of_sent, lines_of, packet_line, reply_line}
use Rattle.history.specs.Ranges.{HaveLinesThatFit, PacketFits, ReplyFits}
use Rattle.history.specs.declared.history.History.{History}
use Rattle.history.specs.declared.reply_line.ReplyLine.{ReplyLine}
use Rattle.history.specs.declared.sent.Sent.{Sent}
use Rattle.report.specs.Laws.{IsReportOf}
use Rattle.report.specs.Lines.{end_row, queue_row, cpu_row, tx_row}
use Rattle.report.specs.Commands.{command_row}
use Rattle.report.specs.Report.{command_rows, cpu_rows, first_row, packet_rows}
use Rattle.report.specs.Report.{queue_rows, reply_rows, rows_of, tap_rows, tx_rows}
use Rattle.report.specs.Report.{write_rows}
use Rattle.report.specs.Texts.{AreRows, Row, text_of}
use Rattle.report.specs.Texts.Row.{Tap}
use Rattle.std.specs.Option.{option_map}
use Rattle.report.proofs.ReportRows.{has_rows}
use Rattle.report.proofs.SameSections.{Each-numbered, Each-replies}
use Rattle.report.proofs.SameSections.{Each-writes}
use Rattle.report_reader.proofs.OthersLemmas.{Behind, append-other, other-row, rows-short, section}
use Rattle.report_reader.proofs.OthersLemmas.{shown-as_many}
use Rattle.report_reader.specs.Parts.{ArePartsOf, lane_sums, seen_packet, writes_from}
use Rattle.report_reader.specs.Commands.{ShowsCommanded}
use Rattle.report_reader.specs.Ends.{Going}
use Rattle.report_reader.specs.Sections.{AreShown, HaveLengths, IsLast, IsOther, Reads, ReadsTexts}
use Rattle.report_reader.specs.Seen.{ShowsPacket, ShowsReply}
use Rattle.report_reader.specs.Sums.{ShowsSums, ShowsTaken, ShowsWrite}
use Rattle.report_reader.specs.declared.parts.Parts.{Parts}
use Rattle.report_reader.specs.declared.shortest.TheConstants.{SHORTEST_COMMAND, SHORTEST_CPU}
use Rattle.report_reader.specs.declared.shortest.TheConstants.{SHORTEST_PACKET, SHORTEST_QUEUE}
use Rattle.report_reader.specs.declared.shortest.TheConstants.{SHORTEST_REPLY, SHORTEST_TX}
use Rattle.report_reader.specs.declared.shortest.TheConstants.{SHORTEST_WRITE}
use Rattle.report_reader.proofs.CommandsLemmas.{commands-shown, few-commanded}
use Rattle.report_reader.proofs.LastLemmas.{last-few}
use Rattle.report_reader.proofs.SectionsLemmas.{going-row}
use Rattle.report_reader.proofs.ShownLemmas.{cpus-shown, packets-shown, queues-shown, replies-shown}
use Rattle.report_reader.proofs.ShownLemmas.{rows-first, rows-rest, seen_replies, txs-shown}
use Rattle.report_reader.proofs.ShownLemmas.{writes-shown}

abbrev pub last_row : History → Row
last_row h = end_row (length h.arrivals) h.total h.cut

abbrev pub from_taps : History → List (List ℕ) → List Row
from_taps h texts = tap_rows texts ++ (last_row h ∷ [])

abbrev pub from_commands : History → List (List ℕ) → List Row
from_commands h texts = command_rows h.commands ++ from_taps h texts

abbrev pub from_writes : History → List (List ℕ) → List Row
from_writes h texts = write_rows 0 h.writes ++ from_commands h texts

abbrev pub from_txs : History → List (List ℕ) → List Row
from_txs h texts = tx_rows h.tx_lanes ++ from_writes h texts

abbrev pub from_cpus : History → List (List ℕ) → List Row
from_cpus h texts = cpu_rows h.lanes ++ from_txs h texts

abbrev pub from_queues : LineLists → History → List (List ℕ) → List Row
from_queues lines h texts = queue_rows lines.arrived h.taken ++ from_cpus h texts

abbrev pub from_replies : LineLists → History → List (List ℕ) → List Row
from_replies lines h texts = reply_rows lines.replies ++ from_queues lines h texts

abbrev pub from_packets : LineLists → History → List (List ℕ) → List Row
from_packets lines h texts = packet_rows lines.packets ++ from_replies lines h texts

have-lengths : (texts : List (List ℕ)) → All (λ text. length text < 2 ^ 64) texts
    → HaveLengths texts
have-lengths [] a = tt
have-lengths (t ∷ texts) a = (
  All-head (λ text. length text < 2 ^ 64) t texts a,
  have-lengths texts
      (All-tail (λ text. length text < 2 ^ 64) t texts a),
)

app-low : (o : Option ℕ) (apps : ℕ) → 1 ≤ apps → apps < 2 ^ 8 → app_of o apps < 2 ^ 8
app-low None apps a b = omega arith
app-low (Some hash) apps a b = omega (arith, a, b)

reply-low : (packets : List Packet) (apps : ℕ) (h : History) (x : ℕ) (o : Option Sent) → x < 2 ^ 32
    → IfSome (option_map (line_of_sent packets apps h x) o) (λ r. r.id < 2 ^ 32)
reply-low packets apps h x None l = tt
reply-low packets apps h x (Some s) l = l

range-long : (i n : ℕ) → length (range_with_len i n) ≡ n
range-long i zero = refl
range-long i (suc n) = ap suc (range-long (i + 1) n)

kept-first : (o : Option ReplyLine) (lines : List (Option ReplyLine))
    → length (seen_replies lines) ≤ length lines
    → length (seen_replies (o ∷ lines)) ≤ suc (length lines)
kept-first None lines l = omega (arith, l)
kept-first (Some r) lines l = omega (arith, l)

kept-short : (lines : List (Option ReplyLine)) → length (seen_replies lines) ≤ length lines
kept-short [] = omega arith
kept-short (o ∷ lines) = kept-first o lines (kept-short lines)

section-short : {T : Type 0} (first : List ℕ) (least : ℕ) (shows : T → List (List ℕ) → Type 0)
    (bytes : List ℕ) (at : ℕ) (items : List T) (rows rest : List Row)
    → AreShown first least shows items rows → drop at bytes ≡ text_of (rows ++ rest)
    → length items ≤ length bytes
section-short first least shows bytes at items rows rest s t =
    let a = shown-as_many first least shows items rows s in
    let b = rows-short (rows ++ rest) in
    let d = length-append rows rest in
    let e = ap length t in
    let f = length-drop at bytes in
    omega (arith, a, b, d, e, f)

module _ (packets : List Packet) (apps start : ℕ) (h : History) (texts : List (List ℕ))
    (bytes : List ℕ)
    (r : IsReportOf packets apps start h texts bytes) where
  are : AreRows (rows_of (lines_of packets apps h) h texts)
  are = has_rows (lines_of packets apps h) h texts r.taps

  are1 : AreRows (from_packets (lines_of packets apps h) h texts)
  are1 = are.1

  are2 : AreRows (from_replies (lines_of packets apps h) h texts)
  are2 = rows-rest (packet_rows (lines_of packets apps h).packets)
      (from_replies (lines_of packets apps h) h texts) are1

  are3 : AreRows (from_queues (lines_of packets apps h) h texts)
  are3 = rows-rest (reply_rows (lines_of packets apps h).replies)
      (from_queues (lines_of packets apps h) h texts) are2

  are4 : AreRows (from_cpus h texts)
  are4 = rows-rest (queue_rows (lines_of packets apps h).arrived h.taken) (from_cpus h texts) are3

  are5 : AreRows (from_txs h texts)
  are5 = rows-rest (cpu_rows h.lanes) (from_txs h texts) are4

  are6 : AreRows (from_writes h texts)
  are6 = rows-rest (tx_rows h.tx_lanes) (from_writes h texts) are5

  are7 : AreRows (from_commands h texts)
  are7 = rows-rest (write_rows 0 h.writes) (from_commands h texts) are6

  are8 : AreRows (from_taps h texts)
  are8 = rows-rest (command_rows h.commands) (from_taps h texts) are7

  are9 : AreRows (last_row h ∷ [])
  are9 = rows-rest (tap_rows texts) (last_row h ∷ []) are8

  other9 : (n : ℕ) (w : List ℕ) → section w ≡ n → n < 9 → IsOther w (last_row h ∷ [])
  other9 n w e l = other-row n w (last_row h) [] e (l, last-few (length h.arrivals) h.total h.cut)
      are9.0

  other8 : (n : ℕ) (w : List ℕ) → section w ≡ n → n < 8 → IsOther w (from_taps h texts)
  other8 n w e l = append-other n w (tap_rows texts) (last_row h ∷ []) e
      (Each-numbered (Behind n) Tap 0 texts (λ j t. (l, omega arith)))
      (rows-first (tap_rows texts) (last_row h ∷ []) are8) (other9 n w e (omega (arith, l)))

  other7 : (n : ℕ) (w : List ℕ) → section w ≡ n → n < 7 → IsOther w (from_commands h texts)
  other7 n w e l = append-other n w (command_rows h.commands) (from_taps h texts) e
      (Each-numbered (Behind n) command_row 0 h.commands
      (λ j c. (l, (let f = few-commanded c in omega (arith, f)))))
      (rows-first (command_rows h.commands) (from_taps h texts) are7)
      (other8 n w e (omega (arith, l)))

  other6 : (n : ℕ) (w : List ℕ) → section w ≡ n → n < 6 → IsOther w (from_writes h texts)
  other6 n w e l = append-other n w (write_rows 0 h.writes) (from_commands h texts) e
      (Each-writes (Behind n) 0 h.writes (λ a c. (l, omega arith)))
      (rows-first (write_rows 0 h.writes) (from_commands h texts) are6)
      (other7 n w e (omega (arith, l)))

  other5 : (n : ℕ) (w : List ℕ) → section w ≡ n → n < 5 → IsOther w (from_txs h texts)
  other5 n w e l = append-other n w (tx_rows h.tx_lanes) (from_writes h texts) e
      (Each-numbered (Behind n) tx_row 0 h.tx_lanes (λ j c. (l, omega arith)))
      (rows-first (tx_rows h.tx_lanes) (from_writes h texts) are5) (other6 n w e (omega (arith, l)))

  other4 : (n : ℕ) (w : List ℕ) → section w ≡ n → n < 4 → IsOther w (from_cpus h texts)
  other4 n w e l = append-other n w (cpu_rows h.lanes) (from_txs h texts) e
      (Each-numbered (Behind n) cpu_row 0 h.lanes (λ j c. (l, omega arith)))
      (rows-first (cpu_rows h.lanes) (from_txs h texts) are4) (other5 n w e (omega (arith, l)))

  other3 : (n : ℕ) (w : List ℕ) → section w ≡ n → n < 3
      → IsOther w (from_queues (lines_of packets apps h) h texts)
  other3 n w e l = append-other n w (queue_rows (lines_of packets apps h).arrived h.taken)
      (from_cpus h texts) e
      (Each-numbered (Behind n)
      (λ queue count. queue_row queue (slice_index (lines_of packets apps h).arrived queue)
      count) 0 h.taken (λ j c. (l, omega arith)))
      (rows-first (queue_rows (lines_of packets apps h).arrived h.taken) (from_cpus h texts) are3)
      (other4 n w e (omega (arith, l)))

  other2 : (n : ℕ) (w : List ℕ) → section w ≡ n → n < 2
      → IsOther w (from_replies (lines_of packets apps h) h texts)
  other2 n w e l = append-other n w (reply_rows (lines_of packets apps h).replies)
      (from_queues (lines_of packets apps h) h texts) e
      (Each-replies (Behind n) (lines_of packets apps h).replies (λ q. (l, omega arith)))
      (rows-first (reply_rows (lines_of packets apps h).replies)
      (from_queues (lines_of packets apps h) h texts) are2) (other3 n w e (omega (arith, l)))

  -- the line of a report's first row, and what follows
  pub first-line : Going bytes 0 [] (codes "steer" ∷ codes "1" ∷ [])
      (text_of (from_packets (lines_of packets apps h) h texts))
  first-line = going-row bytes 0 first_row (from_packets (lines_of packets apps h) h texts) are.0.0
      are.0.1 (sym r.text)

  module _ (fit : HaveLinesThatFit) (small : length packets ≤ 262144) (some : 1 ≤ apps)
      (low : apps < 2 ^ 8) where
    packet-fits : (x : ℕ) → PacketFits (packet_line packets apps h x)
    packet-fits x = (fit packets apps h small r.regular r.numbers x).0

    reply-fits : (x : ℕ) → IfSome (reply_line packets apps h x) ReplyFits
    reply-fits x = (fit packets apps h small r.regular r.numbers x).1

    few : length h.arrivals ≤ length packets
    few = r.regular.arrived.of_the_capture

    shown1 : AreShown (codes "p") SHORTEST_PACKET ShowsPacket
        (map seen_packet (lines_of packets apps h).packets)
        (packet_rows (lines_of packets apps h).packets)
    shown1 = packets-shown (packet_line packets apps h) (range_with_len 0 (length h.arrivals))
        packet-fits
        (λ x. app-low _ apps some low)
        (rows-first (packet_rows (lines_of packets apps h).packets)
        (from_replies (lines_of packets apps h) h texts) are1)

    shown2 : AreShown (codes "r") SHORTEST_REPLY ShowsReply
        (seen_replies (lines_of packets apps h).replies)
        (reply_rows (lines_of packets apps h).replies)
    shown2 = replies-shown (reply_line packets apps h) 0 (length h.arrivals) reply-fits
        (λ x l. reply-low packets apps h x _ (omega (arith, l, few, small)))
        (rows-first (reply_rows (lines_of packets apps h).replies)
        (from_queues (lines_of packets apps h) h texts) are2)

    short1 : (most : ℕ) → length packets ≤ most
        → length (map seen_packet (lines_of packets apps h).packets) ≤ most
    short1 most l =
        let a = length-map (lines_of packets apps h).packets seen_packet in
        let b = length-map (range_with_len 0 (length h.arrivals)) (packet_line packets apps h) in
        let d = range-long 0 (length h.arrivals) in omega (arith, a, b, d, few, l)

    short2 : (most : ℕ) → length packets ≤ most
        → length (seen_replies (lines_of packets apps h).replies) ≤ most
    short2 most l =
        let a = kept-short (lines_of packets apps h).replies in
        let b = length-map (range_with_len 0 (length h.arrivals)) (reply_line packets apps h) in
        let d = range-long 0 (length h.arrivals) in omega (arith, a, b, d, few, l)

    -- the parts that were read, section by section
    pub parts-are : (p : Parts) (most n0 n1 n2 n3 n4 n5 n6 n7 n8 : ℕ) → length packets ≤ most
        → drop n0 bytes ≡ text_of (from_packets (lines_of packets apps h) h texts)
        → Reads (codes "p") SHORTEST_PACKET ShowsPacket bytes n0 most p.packets.items n1
        → Reads (codes "r") SHORTEST_REPLY ShowsReply bytes n1 most p.replies.items n2
        → Reads (codes "queue") SHORTEST_QUEUE ShowsTaken bytes n2 (length bytes) p.taken.items n3
        → Reads (codes "cpu") SHORTEST_CPU ShowsSums bytes n3 (length bytes) p.cpus.items n4
        → Reads (codes "tx") SHORTEST_TX ShowsSums bytes n4 (length bytes) p.txs.items n5
        → Reads (codes "w") SHORTEST_WRITE ShowsWrite bytes n5 (length bytes) p.writes.items n6
        → Reads (codes "c") SHORTEST_COMMAND ShowsCommanded bytes n6 (length bytes)
        p.commands.items n7
        → ReadsTexts bytes n7 p.texts.items n8
        → ((arrived total : ℕ) (cut : Option ℕ) → IsLast bytes n8 arrived total cut
        → (p.last.total ≡ total) × (p.last.cut ≡ cut))
        → ArePartsOf packets apps h texts p
    parts-are p most n0 n1 n2 n3 n4 n5 n6 n7 n8 l t0 r1 r2 r3 r4 r5 r6 r7 r8 r9 =
        let s1 = r1 (map seen_packet (lines_of packets apps h).packets)
        (packet_rows (lines_of packets apps h).packets)
        (from_replies (lines_of packets apps h) h texts) shown1 (short1 most l)
        (other2 1 (codes "p") refl (omega arith)) t0 in
        let s2 = r2 (seen_replies (lines_of packets apps h).replies)
        (reply_rows (lines_of packets apps h).replies)
        (from_queues (lines_of packets apps h) h texts) shown2 (short2 most l)
        (other3 2 (codes "r") refl (omega arith)) s1.1 in
        let h3 = queues-shown (lines_of packets apps h).arrived 0 h.taken r.numbers.taken
        (rows-first (queue_rows (lines_of packets apps h).arrived h.taken) (from_cpus h texts)
        are3) in
        let s3 = r3 h.taken (queue_rows (lines_of packets apps h).arrived h.taken)
        (from_cpus h texts) h3
        (section-short (codes "queue") SHORTEST_QUEUE ShowsTaken bytes n2 _ _ (from_cpus h texts)
        h3 s2.1)
        (other4 3 (codes "queue") refl (omega arith)) s2.1 in
        let h4 = cpus-shown 0 h.lanes r.numbers.lanes
        (rows-first (cpu_rows h.lanes) (from_txs h texts) are4) in
        let s4 = r4 (map lane_sums h.lanes) (cpu_rows h.lanes) (from_txs h texts) h4
        (section-short (codes "cpu") SHORTEST_CPU ShowsSums bytes n3 _ _ (from_txs h texts) h4
        s3.1)
        (other5 4 (codes "cpu") refl (omega arith)) s3.1 in
        let h5 = txs-shown 0 h.tx_lanes r.numbers.tx_lanes
        (rows-first (tx_rows h.tx_lanes) (from_writes h texts) are5) in
        let s5 = r5 (map lane_sums h.tx_lanes) (tx_rows h.tx_lanes) (from_writes h texts) h5
        (section-short (codes "tx") SHORTEST_TX ShowsSums bytes n4 _ _ (from_writes h texts) h5
        s4.1)
        (other6 5 (codes "tx") refl (omega arith)) s4.1 in
        let w8 : 0 + length h.writes ≤ 2 ^ 8 =
        (let m = r.regular.matched.writes in omega (arith, m, low)) in
        let h6 = writes-shown 0 h.writes w8 r.numbers.writes
        (rows-first (write_rows 0 h.writes) (from_commands h texts) are6) in
        let s6 = r6 (writes_from 0 h.writes) (write_rows 0 h.writes) (from_commands h texts) h6
        (section-short (codes "w") SHORTEST_WRITE ShowsWrite bytes n5 _ _ (from_commands h texts)
        h6 s5.1)
        (other7 6 (codes "w") refl (omega arith)) s5.1 in
        let h7 = commands-shown 0 h.commands r.numbers.commands r.regular.answers
        (rows-first (command_rows h.commands) (from_taps h texts) are7) in
        let s7 = r7 h.commands (command_rows h.commands) (from_taps h texts) h7
        (section-short (codes "c") SHORTEST_COMMAND ShowsCommanded bytes n6 _ _
        (from_taps h texts) h7 s6.1)
        (other8 7 (codes "c") refl (omega arith)) s6.1 in
        let s8 = r8 texts 0 (last_row h ∷ []) (have-lengths texts r.taps.bytes)
        (other9 8 (codes "tap") refl (omega arith)) s7.1 in
        let s9 = r9 (length h.arrivals) h.total h.cut
        (record { total_fits = r.numbers.total; cut_fits = r.numbers.cut; text = s8.1 }) in
        record {
          packets = s1.0;
          replies = s2.0;
          taken = s3.0;
          cpus = s4.0;
          txs = s5.0;
          writes = s6.0;
          commands = s7.0;
          texts = s8.0;
          total = s9.0;
          cut = s9.1;
        }
