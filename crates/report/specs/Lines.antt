-- The rows of packets, of replies, and of the sums of queues and lanes.
use Rattle.std.specs.Prelude.{ℕ, List, [], ◌∷◌, ◌++◌, Option, Some, None, codes, decimal, length}
use Rattle.std.specs.Option.{option_map, option_and_then}
use Rattle.steer_base.specs.declared.choice.Choice.{Choice}
use Rattle.steer_base.specs.declared.choice.Why.{Why}
use Rattle.steer_base.specs.declared.choice.Why.TheVariants.{Plain, Same, Unset, Offline, Passed}
use Rattle.steer_base.specs.declared.choice.Why.TheVariants.{Kept}
use Rattle.steer_base.specs.declared.put.DropCause.{DropCause}
use Rattle.steer_base.specs.declared.put.DropCause.TheVariants.{Full, Flow}
use Rattle.steer_base.specs.declared.put.Put.{Put}
use Rattle.steer_base.specs.declared.put.Put.TheVariants.{At, Dropped as FellAs}
use Rattle.history.specs.declared.lane_list.LaneList.{LaneList}
use Rattle.history.specs.declared.sock_write.SockWrite.{SockWrite}
use Rattle.history.specs.declared.packet_line.PacketLine.{PacketLine}
use Rattle.history.specs.declared.reply_line.ReplyLine.{ReplyLine}
use Rattle.history.specs.declared.packet_line.Via.{Via}
use Rattle.history.specs.declared.packet_line.Via.TheVariants.{Filter, Reta, Unhashed}
use Rattle.history.specs.declared.place.Place.{Place}
use Rattle.history.specs.declared.place.Place.TheVariants.{Ring, Poller, Backlog, Hand, Inbox}
use Rattle.history.specs.declared.place.Place.TheVariants.{Dropped}
use Rattle.report.specs.Texts.{Row}
use Rattle.report.specs.Texts.Row.{Line}

-- an optional number as text, a dash if there is none
abbrev pub or_dash : Option ℕ → List ℕ
or_dash None = codes "-"
or_dash (Some n) = decimal n

-- the word for what led to a receive queue
abbrev pub via_word : Via → List ℕ
via_word Filter = codes "filter"
via_word Reta = codes "reta"
via_word Unhashed = codes "none"

-- the word for the case of a choice, a dash if there is no choice yet
abbrev pub why_word : Option Why → List ℕ
why_word None = codes "-"
why_word (Some Plain) = codes "plain"
why_word (Some Same) = codes "same"
why_word (Some Unset) = codes "unset"
why_word (Some Offline) = codes "offline"
why_word (Some Passed) = codes "passed"
why_word (Some Kept) = codes "kept"

-- the word for the place of a packet
abbrev pub place_word : Place → List ℕ
place_word Ring = codes "ring"
place_word Poller = codes "poller"
place_word (Backlog cpu) = codes "backlog"
place_word (Hand cpu) = codes "hand"
place_word (Inbox app) = codes "inbox"
place_word (Dropped cpu) = codes "drop"

-- the parts of a choice, where there is one
abbrev pub class_in : Option Choice → Option ℕ
class_in o = option_and_then (λ c. c.class) o

-- the desired processor or queue of a choice, if there is one
abbrev pub want_in : Option Choice → Option ℕ
want_in o = option_and_then (λ c. c.want) o

-- the head that a choice noted, if there is one
abbrev pub head_in : Option Choice → Option ℕ
head_in o = option_and_then (λ c. c.head) o

-- the tail that a choice noted, if there is one
abbrev pub tail_in : Option Choice → Option ℕ
tail_in o = option_and_then (λ c. c.tail) o

-- the lane of a choice, if there is one
abbrev pub lane_in : Option Choice → Option ℕ
lane_in o = option_map (λ c. c.lane) o

-- the case of a choice, if there is one
abbrev pub why_in : Option Choice → Option Why
why_in o = option_map (λ c. c.why) o

-- the fields of a drop's cause: for the flow limit, the bucket's number of recent offers
abbrev pub cause_fields : DropCause → List (List ℕ)
cause_fields Full = []
cause_fields (Flow offers) = codes "flow" ∷ decimal offers ∷ []

-- The fields of a put's result: the position, or for a drop its number, the numbers of accepted and
-- pulled packets, and its cause; a dash if there was no put yet.
abbrev pub put_fields : Option Put → List (List ℕ)
put_fields None = codes "-" ∷ []
put_fields (Some (At position)) = decimal position ∷ []
put_fields (Some (FellAs number accepted pulled cause)) =
    codes "drop" ∷ decimal number ∷ decimal accepted ∷ decimal pulled ∷ cause_fields cause

-- the fields of a packet after its choice
abbrev pub last_fields : PacketLine → List (List ℕ)
last_fields l =
    codes "app" ∷ decimal l.app ∷ codes "in" ∷ or_dash l.inbox ∷ codes "place" ∷ place_word l.place
    ∷ []

-- the fields of the row of a packet
abbrev pub packet_fields : PacketLine → List (List ℕ)
packet_fields l =
    decimal l.id ∷ codes "q" ∷ decimal l.queue ∷ codes "via" ∷ via_word l.via
    ∷ codes "class" ∷ or_dash (class_in l.choice) ∷ codes "want" ∷ or_dash (want_in l.choice)
    ∷ codes "head" ∷ or_dash (head_in l.choice) ∷ codes "tail" ∷ or_dash (tail_in l.choice)
    ∷ codes "cpu" ∷ or_dash (lane_in l.choice) ∷ codes "why" ∷ why_word (why_in l.choice)
    ∷ codes "at" ∷ (put_fields l.put ++ last_fields l)

-- the row of a packet that arrived
abbrev pub packet_row : PacketLine → Row
packet_row l = Line (codes "p") (packet_fields l)

-- the fields of the row of a reply
abbrev pub reply_fields : ReplyLine → List (List ℕ)
reply_fields r =
    decimal r.id ∷ codes "app" ∷ decimal r.app ∷ codes "rxq" ∷ decimal r.rxq
    ∷ codes "cpu" ∷ decimal r.cpu
    ∷ codes "pick" ∷ or_dash (want_in r.choice) ∷ codes "head" ∷ or_dash (head_in r.choice)
    ∷ codes "tail" ∷ or_dash (tail_in r.choice) ∷ codes "tx" ∷ or_dash (lane_in r.choice)
    ∷ codes "why" ∷ why_word (why_in r.choice) ∷ codes "at" ∷ or_dash r.put
    ∷ codes "port" ∷ or_dash r.port ∷ []

-- the row of a reply that was begun
abbrev pub reply_row : ReplyLine → Row
reply_row r = Line (codes "r") (reply_fields r)

-- the row of a receive queue: the numbers of packets that arrived there and that were taken
abbrev pub queue_row : (queue arrived taken : ℕ) → Row
queue_row queue arrived taken =
    Line (codes "queue")
    (decimal queue ∷ codes "arrived" ∷ decimal arrived ∷ codes "taken" ∷ decimal taken ∷ [])

-- the fields of a lane's sums
abbrev pub lane_fields : LaneList → List (List ℕ)
lane_fields l =
    codes "accepted" ∷ decimal (length l.accepted) ∷ codes "pulled" ∷ decimal l.pulled
    ∷ codes "delivered" ∷ decimal l.delivered ∷ codes "retired" ∷ decimal l.retired ∷ []

-- the row of a processor
abbrev pub cpu_row : ℕ → LaneList → Row
cpu_row cpu l =
    Line (codes "cpu")
    (decimal cpu ∷ (lane_fields l ++ codes "dropped" ∷ decimal (length l.drops) ∷ []))

-- the row of a transmit queue
abbrev pub tx_row : ℕ → LaneList → Row
tx_row tx l = Line (codes "tx") (decimal tx ∷ lane_fields l)

-- the row of an application's write to the socket flow table
abbrev pub write_row : ℕ → SockWrite → Row
write_row app w =
    Line (codes "w")
    (codes "app" ∷ decimal app ∷ codes "entry" ∷ decimal w.entry ∷ codes "cpu" ∷ decimal w.cpu ∷ [])

-- the fields of a truncated last record, if there is one
abbrev pub cut_fields : Option ℕ → List (List ℕ)
cut_fields None = []
cut_fields (Some bytes) = codes "cut" ∷ decimal bytes ∷ []

-- the last row: the number of packets that arrived, the number in the capture, and the length of a
-- truncated last record if there is one
abbrev pub end_row : ℕ → ℕ → Option ℕ → Row
end_row arrived total cut =
    Line (codes "end") (decimal arrived ∷ codes "of" ∷ decimal total ∷ cut_fields cut)
