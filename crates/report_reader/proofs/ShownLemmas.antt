-- The rows of a report show what is kept of its lines.
use Rattle.std.proofs.Common.{ℕ, suc, zero, ◌≡◌, ◌≤◌, ◌<◌, ◌+◌, ◌^◌, ◌++◌, List, [], ◌∷◌, Option}
use Rattle.std.proofs.Common.{Some, None, length, map, decimal, refl, arith}
use Rattle.std.specs.Prelude.{codes, slice_index}
use Rattle.std.specs.List.{All, cons_option, filter_map, range_with_len}
use Rattle.std.specs.Option.{IfSome, option_map}
use Rattle.std.proofs.lemmas.List.Elements.{All-head, All-tail}
use Rattle.steer_base.specs.declared.choice.Choice.{Choice}
use Rattle.steer_base.specs.declared.put.DropCause.TheVariants.{Full, Flow}
use Rattle.steer_base.specs.declared.put.Put.{Put}
use Rattle.steer_base.specs.declared.put.Put.TheVariants.{At, Dropped as FellAs}
use Rattle.history.specs.Ranges.{ChoiceFits, LaneFits, PacketFits, PutFits, ReplyFits}
use Rattle.history.specs.Ranges.{WriteFits}
use Rattle.history.specs.Shown.{without_class}
use Rattle.history.specs.declared.lane_list.LaneList.{LaneList}
use Rattle.history.specs.declared.packet_line.PacketLine.{PacketLine}
use Rattle.history.specs.declared.reply_line.ReplyLine.{ReplyLine}
use Rattle.history.specs.declared.sock_write.SockWrite.{SockWrite}
use Rattle.report.specs.Lines.{class_in, cpu_row, head_in, lane_fields, lane_in, last_fields}
use Rattle.report.specs.Lines.{or_dash, packet_fields, packet_row, put_fields, queue_row}
use Rattle.report.specs.Lines.{reply_fields, reply_row, tail_in, tx_row, via_word, want_in, why_in}
use Rattle.report.specs.Lines.{why_word, write_row}
use Rattle.report.specs.Report.{numbered, write_rows}
use Rattle.report.specs.Texts.{AreRows, IsRow, Row}
use Rattle.report_reader.specs.Parts.{lane_sums, seen_packet, seen_reply, writes_from}
use Rattle.report_reader.specs.Sections.{AreShown, IsShown}
use Rattle.report_reader.specs.declared.shortest.TheConstants.{SHORTEST_CPU, SHORTEST_PACKET}
use Rattle.report_reader.specs.declared.shortest.TheConstants.{SHORTEST_QUEUE, SHORTEST_REPLY}
use Rattle.report_reader.specs.declared.shortest.TheConstants.{SHORTEST_TX, SHORTEST_WRITE}
use Rattle.report_reader.proofs.ShortestLemmas.{cpu-long, packet-long, queue-long, reply-long}
use Rattle.report_reader.proofs.ShortestLemmas.{tx-long, write-long}
use Rattle.report_reader.specs.Seen.{GivesPacket, ShowsChoice, ShowsPacket, ShowsPut, ShowsReply}
use Rattle.report_reader.specs.Seen.{field_at, packet_steps, put_end, reply_steps}
use Rattle.report_reader.specs.Values.{HasSteps, values_of}
use Rattle.report_reader.specs.Sums.{ShowsSums, ShowsTaken, ShowsWrite}
use Rattle.report_reader.specs.declared.packets.SeenReply.{SeenReply}
use Rattle.report_reader.specs.declared.sums.AppWrite.{AppWrite}
use Rattle.report_reader.proofs.SeenLemmas.{class-fits}

-- the line of a packet with some put
abbrev with_put : PacketLine → Option Put → List (List ℕ)
with_put l o =
    codes "p" ∷ decimal l.id ∷ codes "q" ∷ decimal l.queue ∷ codes "via" ∷ via_word l.via
    ∷ codes "class" ∷ or_dash (class_in l.choice) ∷ codes "want" ∷ or_dash (want_in l.choice)
    ∷ codes "head" ∷ or_dash (head_in l.choice) ∷ codes "tail" ∷ or_dash (tail_in l.choice)
    ∷ codes "cpu" ∷ or_dash (lane_in l.choice) ∷ codes "why" ∷ why_word (why_in l.choice)
    ∷ codes "at" ∷ (put_fields o ++ last_fields l)

-- its values
abbrev values_with : PacketLine → Option Put → List (List ℕ)
values_with l o = values_of packet_steps (with_put l o)

last-step : (l : PacketLine) (o : Option Put)
    → HasSteps (3 ∷ []) (codes "at" ∷ (put_fields o ++ last_fields l))
last-step l None = (refl, tt)
last-step l (Some (At n)) = (refl, tt)
last-step l (Some (FellAs n a u cause)) = (refl, tt)

packet-steps : (l : PacketLine) (o : Option Put) → HasSteps packet_steps (with_put l o)
packet-steps l o =
    (refl, (refl, (refl, (refl, (refl, (refl, (refl, (refl, (refl, last-step l o)))))))))

put-shown : (l : PacketLine) (o : Option Put) → IfSome o PutFits → ShowsPut (values_with l o) o
put-shown l None f = refl
put-shown l (Some (At n)) f = (refl, f)
put-shown l (Some (FellAs n a u Full)) f = (refl, refl, f.0, refl, f.1, refl, f.2, refl)
put-shown l (Some (FellAs n a u (Flow m))) f =
    (refl, refl, f.0, refl, f.1, refl, f.2, (refl, refl, f.3))

app-shown : (l : PacketLine) (o : Option Put)
    → field_at (values_with l o) (put_end o + 1) ≡ decimal l.app
app-shown l None = refl
app-shown l (Some (At n)) = refl
app-shown l (Some (FellAs n a u Full)) = refl
app-shown l (Some (FellAs n a u (Flow m))) = refl

inbox-shown : (l : PacketLine) (o : Option Put)
    → field_at (values_with l o) (put_end o + 3) ≡ or_dash l.inbox
inbox-shown l None = refl
inbox-shown l (Some (At n)) = refl
inbox-shown l (Some (FellAs n a u Full)) = refl
inbox-shown l (Some (FellAs n a u (Flow m))) = refl

few-put : (l : PacketLine) (o : Option Put) → length (with_put l o) ≤ 40
few-put l None = omega arith
few-put l (Some (At n)) = omega arith
few-put l (Some (FellAs n a u Full)) = omega arith
few-put l (Some (FellAs n a u (Flow m))) = omega arith

packet-gives : (l : PacketLine) → PacketFits l → l.app < 2 ^ 8
    → GivesPacket (seen_packet l) (values_with l l.put)
packet-gives l f a = record {
  queue_fits = f.queue;
  queue = refl;
  via = refl;
  class_fits = class-fits l.choice f.choice;
  class = refl;
  choice = record {
    fits = f.choice;
    is_class = refl;
    want = refl;
    head = refl;
    tail = refl;
    lane =
        refl;
    why = refl;
  };
  put = put-shown l l.put f.put;
  app_fits = a;
  app = app-shown l l.put;
  inbox_fits = f.inbox;
  inbox = inbox-shown l l.put;
}

pub packet-shown : (l : PacketLine) → PacketFits l → l.app < 2 ^ 8 → IsRow (packet_row l)
    → IsShown (codes "p") SHORTEST_PACKET ShowsPacket (seen_packet l) (packet_row l)
packet-shown l f a r =
    let few = few-put l l.put in
    record {
      further = packet_fields l;
      is = refl;
      is_field = r.0;
      are_fields = r.1;
      few = few;
      long = packet-long l;
      shown = record {
        steps = packet-steps l l.put;
        values = packet-gives l f a;
      };
    }

pub packets-shown : {A : Type 0} (line : A → PacketLine) (xs : List A)
    → ((x : A) → PacketFits (line x)) → ((x : A) → (line x).app < 2 ^ 8)
    → AreRows (map packet_row (map line xs)) → AreShown (codes "p") SHORTEST_PACKET ShowsPacket
    (map seen_packet (map line xs)) (map packet_row (map line xs))
packets-shown line [] f a r = tt
packets-shown line (x ∷ xs) f a r = (
  packet-shown (line x) (f x) (a x) r.0,
  packets-shown line xs f
      a r.1,
)

bare-shown : (fs : List (List ℕ)) (o : Option Choice) → IfSome o ChoiceFits
    → field_at fs 4 ≡ or_dash (want_in o) → field_at fs 5 ≡ or_dash (head_in o)
    → field_at fs 6 ≡ or_dash (tail_in o)
    → field_at fs 7 ≡ or_dash (lane_in o) → field_at fs 8 ≡ why_word (why_in o)
    → ShowsChoice fs None (option_map without_class o)
bare-shown fs None f a b c d e = record {
  fits = tt;
  is_class = refl;
  want = a;
  head = b;
  tail =
      c;
  lane = d;
  why = e;
}
bare-shown fs (Some k) f a b c d e = record {
  fits = record { class = tt; want = f.want; head = f.head; tail = f.tail; lane = f.lane };
  is_class = refl;
  want = a;
  head = b;
  tail = c;
  lane = d;
  why = e;
}

pub reply-shown : (r : ReplyLine) → ReplyFits r → r.id < 2 ^ 32 → IsRow (reply_row r)
    → IsShown (codes "r") SHORTEST_REPLY ShowsReply (seen_reply r) (reply_row r)
reply-shown r f i w = record {
  further = reply_fields r;
  is = refl;
  is_field = w.0;
  are_fields = w.1;
  few = omega arith;
  long = reply-long r;
  shown = record {
    steps =
        (refl, (refl, (refl, (refl, (refl, (refl, (refl, (refl, (refl, (refl, (refl, tt)))))))))));
    values = record {
      id_fits = i;
      id = refl;
      rxq_fits = f.rxq;
      rxq = refl;
      cpu_fits = f.cpu;
      cpu = refl;
      choice = bare-shown (values_of reply_steps (codes "r" ∷ reply_fields r)) r.choice f.choice
          refl refl refl refl refl;
      put_fits = f.put;
      put = refl;
      port_fits = f.port;
      port = refl;
    };
  };
}

abbrev pub seen_replies : List (Option ReplyLine) → List SeenReply
seen_replies lines = filter_map (λ line. option_map seen_reply line) lines

abbrev reply_rows_of : List (Option ReplyLine) → List Row
reply_rows_of lines = filter_map (λ line. option_map reply_row line) lines

reply-first : (o : Option ReplyLine) (lines : List (Option ReplyLine)) → IfSome o ReplyFits
    → IfSome o (λ r. r.id < 2 ^ 32)
    → AreRows (cons_option (option_map reply_row o) (reply_rows_of lines))
    → (AreRows (reply_rows_of lines) → AreShown (codes "r") SHORTEST_REPLY ShowsReply
    (seen_replies lines)
    (reply_rows_of lines))
    → AreShown (codes "r") SHORTEST_REPLY ShowsReply (cons_option (option_map seen_reply o)
    (seen_replies lines))
    (cons_option (option_map reply_row o) (reply_rows_of lines))
reply-first None lines f i r more = more r
reply-first (Some l) lines f i r more = (reply-shown l f i r.0, more r.1)

pub replies-shown : (line : ℕ → Option ReplyLine) (i n : ℕ) → ((x : ℕ) → IfSome (line x) ReplyFits)
    → ((x : ℕ) → x < i + n → IfSome (line x) (λ r. r.id < 2 ^ 32))
    → AreRows (reply_rows_of (map line (range_with_len i n)))
    → AreShown (codes "r") SHORTEST_REPLY ShowsReply (seen_replies (map line (range_with_len i n)))
    (reply_rows_of (map line (range_with_len i n)))
replies-shown line i zero f g r = tt
replies-shown line i (suc n) f g r =
    reply-first (line i) (map line (range_with_len (i + 1) n)) (f i) (g i (omega arith)) r
    (λ w. replies-shown line (i + 1) n f (λ x l. g x (omega (arith, l))) w)

pub queues-shown : (arrived : List ℕ) (i : ℕ) (taken : List ℕ) → All (λ n. n < 2 ^ 32) taken
    → AreRows (numbered (λ queue count. queue_row queue (slice_index arrived queue) count) i taken)
    → AreShown (codes "queue") SHORTEST_QUEUE ShowsTaken taken
    (numbered (λ queue count. queue_row queue (slice_index arrived queue) count) i taken)
queues-shown arrived i [] f r = tt
queues-shown arrived i (t ∷ taken) f r =
    let s : IsShown (codes "queue") SHORTEST_QUEUE ShowsTaken t
    (queue_row i (slice_index arrived i) t) = record {
      further = decimal i ∷ codes "arrived" ∷ decimal (slice_index arrived i) ∷ codes "taken" ∷
          decimal t ∷ [];
      is = refl;
      is_field = r.0.0;
      are_fields = r.0.1;
      few = omega arith;
      long = queue-long i (slice_index arrived i) t;
      shown = record { fits = All-head (λ n. n < 2 ^ 32) t taken f; taken_at = refl };
    } in
    (s, queues-shown arrived (suc i) taken (All-tail (λ n. n < 2 ^ 32) t taken f) r.1)

pub cpus-shown : (i : ℕ) (lanes : List LaneList) → All LaneFits lanes
    → AreRows (numbered cpu_row i lanes)
    → AreShown (codes "cpu") SHORTEST_CPU ShowsSums (map lane_sums lanes)
    (numbered cpu_row i lanes)
cpus-shown i [] f r = tt
cpus-shown i (l ∷ lanes) f r =
    let h = All-head LaneFits l lanes f in
    let s : IsShown (codes "cpu") SHORTEST_CPU ShowsSums (lane_sums l) (cpu_row i l) = record {
      further = decimal i ∷ (lane_fields l ++ codes "dropped" ∷ decimal (length l.drops) ∷ []);
      is = refl;
      is_field = r.0.0;
      are_fields = r.0.1;
      few = omega arith;
      long = cpu-long i l;
      shown = record {
        pulled_fits = h.pulled;
        pulled = refl;
        delivered_fits =
            h.delivered;
        delivered = refl;
        retired_fits = h.retired;
        retired = refl;
      };
    } in
    (s, cpus-shown (suc i) lanes (All-tail LaneFits l lanes f) r.1)

pub txs-shown : (i : ℕ) (lanes : List LaneList) → All LaneFits lanes
    → AreRows (numbered tx_row i lanes)
    → AreShown (codes "tx") SHORTEST_TX ShowsSums (map lane_sums lanes) (numbered tx_row i lanes)
txs-shown i [] f r = tt
txs-shown i (l ∷ lanes) f r =
    let h = All-head LaneFits l lanes f in
    let s : IsShown (codes "tx") SHORTEST_TX ShowsSums (lane_sums l) (tx_row i l) = record {
      further = decimal i ∷ lane_fields l;
      is = refl;
      is_field = r.0.0;
      are_fields = r.0.1;
      few = omega arith;
      long = tx-long i l;
      shown = record {
        pulled_fits = h.pulled;
        pulled = refl;
        delivered_fits =
            h.delivered;
        delivered = refl;
        retired_fits = h.retired;
        retired = refl;
      };
    } in
    (s, txs-shown (suc i) lanes (All-tail LaneFits l lanes f) r.1)

abbrev of_app : ℕ → SockWrite → AppWrite
of_app a w = record { app = a; write = w }

shown-append : {T : Type 0} (first : List ℕ) (least : ℕ) (shows : T → List (List ℕ) → Type 0)
    (xs ys : List T)
    (rs ss : List Row)
    → AreShown first least shows xs rs → AreShown first least shows ys ss
    → AreShown first least shows (xs ++ ys)
    (rs ++ ss)
shown-append first least shows [] ys [] ss a b = b
shown-append first least shows [] ys (r ∷ rs) ss a b = absurd a
shown-append first least shows (x ∷ xs) ys [] ss a b = absurd a
shown-append first least shows (x ∷ xs) ys (r ∷ rs) ss a b =
    (a.0, shown-append first least shows xs ys rs ss a.1 b)

pub rows-first : (rs ss : List Row) → AreRows (rs ++ ss) → AreRows rs
rows-first [] ss a = tt
rows-first (r ∷ rs) ss a = (a.0, rows-first rs ss a.1)

pub rows-rest : (rs ss : List Row) → AreRows (rs ++ ss) → AreRows ss
rows-rest [] ss a = a
rows-rest (r ∷ rs) ss a = rows-rest rs ss a.1

app-writes-shown : (a : ℕ) (writes : List SockWrite) → a < 2 ^ 8 → All WriteFits writes
    → AreRows (map (write_row a) writes)
    → AreShown (codes "w") SHORTEST_WRITE ShowsWrite (map (of_app a) writes)
    (map (write_row a) writes)
app-writes-shown a [] l f r = tt
app-writes-shown a (w ∷ writes) l f r =
    let h = All-head WriteFits w writes f in
    let s : IsShown (codes "w") SHORTEST_WRITE ShowsWrite (of_app a w) (write_row a w) = record {
      further = codes "app" ∷ decimal a ∷ codes "entry" ∷ decimal w.entry ∷ codes "cpu" ∷ decimal
          w.cpu ∷ [];
      is = refl;
      is_field = r.0.0;
      are_fields = r.0.1;
      few = omega arith;
      long = write-long a w;
      shown = record {
        steps = (refl, (refl, (refl, tt)));
        values = record {
          app_fits = l;
          app = refl;
          entry_fits = h.entry;
          entry = refl;
          cpu_fits = h.cpu;
          cpu = refl;
        };
      };
    } in
    (s, app-writes-shown a writes l (All-tail WriteFits w writes f) r.1)

pub writes-shown : (a : ℕ) (writes : List (List SockWrite)) → a + length writes ≤ 2 ^ 8
    → All (All WriteFits) writes
    → AreRows (write_rows a writes) → AreShown (codes "w") SHORTEST_WRITE ShowsWrite
    (writes_from a writes)
    (write_rows a writes)
writes-shown a [] l f r = tt
writes-shown a (ws ∷ rest) l f r =
    shown-append (codes "w") SHORTEST_WRITE ShowsWrite (map (of_app a) ws)
    (writes_from (suc a) rest)
    (map (write_row a) ws) (write_rows (suc a) rest)
    (app-writes-shown a ws (omega (arith, l)) (All-head (All WriteFits) ws rest f)
    (rows-first (map (write_row a) ws) (write_rows (suc a) rest) r))
    (writes-shown (suc a) rest (omega (arith, l)) (All-tail (All WriteFits) ws rest f)
    (rows-rest (map (write_row a) ws) (write_rows (suc a) rest) r))
