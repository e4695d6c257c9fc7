-- No field of a report has a space or a line feed, and only the row of a tap begins as one.
use Rattle.std.proofs.Common.{◌≡◌, ◌≢◌, ℕ, suc, ◌<◌, ◌^◌, ◌≤◌, ◌+◌, ◌*◌, true, false, List, [], ◌∷◌}
use Rattle.std.proofs.Common.{◌++◌, Option, Some, None, length, map, refl, ap, arith, decimal}
use Rattle.std.specs.Prelude.{codes, ◌==◌, slice_index}
use Rattle.std.specs.List.{All, cons_option}
use Rattle.std.specs.Option.{option_map}
use Rattle.std.proofs.lemmas.Bool.{eq-eqb}
use Rattle.std.proofs.lemmas.List.Elements.{All-head, All-tail}
use Rattle.steer_base.specs.Sets.{has, has_queue, those_below}
use Rattle.steer_base.specs.declared.choice.Why.{Why}
use Rattle.steer_base.specs.declared.choice.Why.TheVariants.{Plain, Same, Unset, Offline, Passed}
use Rattle.steer_base.specs.declared.choice.Why.TheVariants.{Kept}
use Rattle.steer_base.specs.declared.command.Command.{Command}
use Rattle.steer_base.specs.declared.command.Command.TheVariants as command
use Rattle.steer_base.specs.declared.command.Answer.{Answer}
use Rattle.steer_base.specs.declared.command.Answer.TheVariants as answer
use Rattle.steer_base.specs.declared.command.Busy.TheVariants.{Inside, NotEmpty}
use Rattle.steer_base.specs.declared.command.User.TheVariants.{Queue, App}
use Rattle.steer_base.specs.declared.cpu_mask.CpuMask.{CpuMask}
use Rattle.steer_base.specs.declared.idle.Idle.{Idle}
use Rattle.steer_base.specs.declared.idle.Idle.TheVariants.{AlreadyOnline}
use Rattle.steer_base.specs.declared.put.DropCause.{DropCause}
use Rattle.steer_base.specs.declared.put.DropCause.TheVariants.{Full, Flow}
use Rattle.steer_base.specs.declared.put.Put.{Put}
use Rattle.steer_base.specs.declared.put.Put.TheVariants.{At, Dropped as FellAs}
use Rattle.history.specs.declared.commanded.Commanded.{Commanded}
use Rattle.history.specs.declared.lane_list.LaneList.{LaneList}
use Rattle.history.specs.declared.packet_line.PacketLine.{PacketLine}
use Rattle.history.specs.declared.packet_line.Via.{Via}
use Rattle.history.specs.declared.packet_line.Via.TheVariants.{Filter, Reta, Unhashed}
use Rattle.history.specs.declared.place.Place.{Place}
use Rattle.history.specs.declared.place.Place.TheVariants.{Ring, Poller, Backlog, Hand, Inbox}
use Rattle.history.specs.declared.place.Place.TheVariants.{Dropped}
use Rattle.history.specs.declared.reply_line.ReplyLine.{ReplyLine}
use Rattle.history.specs.declared.sock_write.SockWrite.{SockWrite}
use Rattle.report.specs.Commands.{with_commas, set_field, cpus_field, queues_field, command_fields}
use Rattle.report.specs.Commands.{idle_fields, busy_fields, user_fields, answer_fields, command_row}
use Rattle.report.specs.Laws.{HasRows}
use Rattle.report.specs.Lines.{or_dash, via_word, why_word, place_word, class_in, want_in, head_in}
use Rattle.report.specs.Lines.{tail_in, lane_in, why_in, cause_fields, put_fields, last_fields}
use Rattle.report.specs.Lines.{packet_fields, packet_row, reply_fields, reply_row, queue_row}
use Rattle.report.specs.Lines.{lane_fields, cpu_row, tx_row, write_row, cut_fields, end_row}
use Rattle.report.specs.Report.{numbered, packet_rows, reply_rows, queue_rows, cpu_rows, tx_rows}
use Rattle.report.specs.Report.{write_rows, command_rows, tap_rows}
use Rattle.report.specs.Texts.{Row, IsField, AreFields, IsRow, AreRows}
use Rattle.report.specs.Texts.Row.{Line, Tap}
use Rattle.report.proofs.Cuts.{is_field, word-IsField}
use Rattle.report.proofs.Digits.{decimal-IsField}

-- Fields, one after another.
labelled : (label value : List ℕ) (rest : List (List ℕ)) → is_field label ≡ true → IsField value
    → AreFields rest → AreFields (label ∷ value ∷ rest)
labelled label value rest t v r = (word-IsField label t, (v, r))

worded : (word : List ℕ) (rest : List (List ℕ)) → is_field word ≡ true → AreFields rest → AreFields
    (word ∷ rest)
worded word rest t r = (word-IsField word t, r)

AreFields-append : (fs gs : List (List ℕ)) → AreFields fs → AreFields gs → AreFields (fs ++ gs)
AreFields-append [] gs a b = b
AreFields-append (f ∷ fs) gs a b = (a.0, AreFields-append fs gs a.1 b)

IsField-append : (f g : List ℕ) → IsField f → IsField g → IsField (f ++ g)
IsField-append [] g a b = b
IsField-append (x ∷ f) g a b = (a.0, a.1, IsField-append f g a.2 b)

or_dash-IsField : (o : Option ℕ) → IsField (or_dash o)
or_dash-IsField None = word-IsField (codes "-") refl
or_dash-IsField (Some n) = decimal-IsField n

via-IsField : (v : Via) → IsField (via_word v)
via-IsField Filter = word-IsField (codes "filter") refl
via-IsField Reta = word-IsField (codes "reta") refl
via-IsField Unhashed = word-IsField (codes "none") refl

why-IsField : (w : Option Why) → IsField (why_word w)
why-IsField None = word-IsField (codes "-") refl
why-IsField (Some Plain) = word-IsField (codes "plain") refl
why-IsField (Some Same) = word-IsField (codes "same") refl
why-IsField (Some Unset) = word-IsField (codes "unset") refl
why-IsField (Some Offline) = word-IsField (codes "offline") refl
why-IsField (Some Passed) = word-IsField (codes "passed") refl
why-IsField (Some Kept) = word-IsField (codes "kept") refl

place-IsField : (p : Place) → IsField (place_word p)
place-IsField Ring = word-IsField (codes "ring") refl
place-IsField Poller = word-IsField (codes "poller") refl
place-IsField (Backlog c) = word-IsField (codes "backlog") refl
place-IsField (Hand c) = word-IsField (codes "hand") refl
place-IsField (Inbox a) = word-IsField (codes "inbox") refl
place-IsField (Dropped c) = word-IsField (codes "drop") refl

cause-AreFields : (c : DropCause) → AreFields (cause_fields c)
cause-AreFields Full = tt
cause-AreFields (Flow n) = labelled (codes "flow") (decimal n) [] refl (decimal-IsField n) tt

put-AreFields : (o : Option Put) → AreFields (put_fields o)
put-AreFields None = worded (codes "-") [] refl tt
put-AreFields (Some (At n)) = (decimal-IsField n, tt)
put-AreFields (Some (FellAs k a u c)) =
    labelled (codes "drop") (decimal k) (decimal a ∷ decimal u ∷ cause_fields c) refl
    (decimal-IsField k)
    (decimal-IsField a, (decimal-IsField u, cause-AreFields c))

last-AreFields : (l : PacketLine) → AreFields (last_fields l)
last-AreFields l =
    labelled (codes "app") (decimal l.app) (codes "in" ∷ or_dash l.inbox ∷ codes "place"
    ∷ place_word l.place ∷ []) refl (decimal-IsField l.app)
    (labelled (codes "in") (or_dash l.inbox) (codes "place" ∷ place_word l.place ∷ []) refl
    (or_dash-IsField l.inbox)
    (labelled (codes "place") (place_word l.place) [] refl (place-IsField l.place) tt))

-- what stands in a row before and behind the parts of a choice
choice-AreFields : (first second : List ℕ) (o p q r s : List ℕ) (rest : List (List ℕ))
    → is_field first ≡ true → is_field second ≡ true
    → IsField o → IsField p → IsField q → IsField r → IsField s → AreFields rest
    → AreFields (first ∷ o ∷ codes "head" ∷ p ∷ codes "tail" ∷ q ∷ second ∷ r ∷ codes "why" ∷ s
    ∷ codes "at" ∷ rest)
choice-AreFields first second o p q r s rest a b c d e f g h =
    labelled first o (codes "head" ∷ p ∷ codes "tail" ∷ q ∷ second ∷ r ∷ codes "why" ∷ s
    ∷ codes "at" ∷ rest) a c
    (labelled (codes "head") p (codes "tail" ∷ q ∷ second ∷ r ∷ codes "why" ∷ s ∷ codes "at"
    ∷ rest) refl d
    (labelled (codes "tail") q (second ∷ r ∷ codes "why" ∷ s ∷ codes "at" ∷ rest) refl e
    (labelled second r (codes "why" ∷ s ∷ codes "at" ∷ rest) b f
    (labelled (codes "why") s (codes "at" ∷ rest) refl g (worded (codes "at") rest refl h)))))

packet-AreFields : (l : PacketLine) → AreFields (packet_fields l)
packet-AreFields l =
    let rest = put_fields l.put ++ last_fields l in
    let chosen = choice-AreFields (codes "want") (codes "cpu") (or_dash (want_in l.choice))
    (or_dash (head_in l.choice)) (or_dash (tail_in l.choice))
    (or_dash (lane_in l.choice)) (why_word (why_in l.choice)) rest refl refl
    (or_dash-IsField (want_in l.choice)) (or_dash-IsField (head_in l.choice))
    (or_dash-IsField (tail_in l.choice)) (or_dash-IsField (lane_in l.choice))
    (why-IsField (why_in l.choice))
    (AreFields-append (put_fields l.put) (last_fields l) (put-AreFields l.put)
    (last-AreFields l)) in (
      decimal-IsField l.id,
      (
        word-IsField (codes "q") refl,
        (
          decimal-IsField l.queue,
          (
            word-IsField (codes "via") refl,
            (
              via-IsField l.via,
              (word-IsField (codes "class") refl, (or_dash-IsField (class_in l.choice), chosen)),
            ),
          ),
        ),
      ),
    )

reply-AreFields : (r : ReplyLine) → AreFields (reply_fields r)
reply-AreFields r =
    let chosen = choice-AreFields (codes "pick") (codes "tx") (or_dash (want_in r.choice))
    (or_dash (head_in r.choice)) (or_dash (tail_in r.choice))
    (or_dash (lane_in r.choice)) (why_word (why_in r.choice)) (or_dash r.put ∷ codes "port"
    ∷ or_dash r.port ∷ []) refl refl
    (or_dash-IsField (want_in r.choice)) (or_dash-IsField (head_in r.choice))
    (or_dash-IsField (tail_in r.choice)) (or_dash-IsField (lane_in r.choice))
    (why-IsField (why_in r.choice)) (
      or_dash-IsField r.put,
      labelled (codes "port")
          (or_dash r.port) [] refl (or_dash-IsField r.port) tt,
    ) in (
      decimal-IsField r.id,
      (
        word-IsField (codes "app") refl,
        (
          decimal-IsField r.app,
          (
            word-IsField (codes "rxq") refl,
            (
              decimal-IsField r.rxq,
              (word-IsField (codes "cpu") refl, (decimal-IsField r.cpu, chosen)),
            ),
          ),
        ),
      ),
    )

lane-AreFields : (l : LaneList) → AreFields (lane_fields l)
lane-AreFields l = (
  word-IsField (codes "accepted") refl,
  (
    decimal-IsField (length l.accepted),
    (
      word-IsField (codes "pulled") refl,
      (
        decimal-IsField l.pulled,
        (
          word-IsField (codes "delivered") refl,
          (
            decimal-IsField l.delivered,
            (word-IsField (codes "retired") refl, (decimal-IsField l.retired, tt)),
          ),
        ),
      ),
    ),
  ),
)

cut-AreFields : (o : Option ℕ) → AreFields (cut_fields o)
cut-AreFields None = tt
cut-AreFields (Some n) = labelled (codes "cut") (decimal n) [] refl (decimal-IsField n) tt

commas-IsField : (ns : List ℕ) → IsField (with_commas ns)
commas-IsField [] = tt
commas-IsField (n ∷ ns) = (
  (λ e. omega (arith, e)),
  (λ e. omega (arith, e)),
  IsField-append
      (decimal n) (with_commas ns) (decimal-IsField n) (commas-IsField ns),
)

set-IsField : (ns : List ℕ) → IsField (set_field ns)
set-IsField [] = word-IsField (codes "-") refl
set-IsField (n ∷ ns) = IsField-append (decimal n) (with_commas ns) (decimal-IsField n)
    (commas-IsField ns)

cpus-IsField : (cpus : CpuMask) → IsField (cpus_field cpus)
cpus-IsField cpus = set-IsField (those_below 32 (has cpus))

queues-IsField : (queues : ℕ) → IsField (queues_field queues)
queues-IsField queues = set-IsField (those_below 16 (has_queue queues))

command-AreFields : (c : Command) → AreFields (command_fields c)
command-AreFields (command.Mask q m) = labelled (codes "mask") (decimal q) (cpus_field m ∷ []) refl
    (decimal-IsField q) (cpus-IsField m, tt)
command-AreFields (command.Flows q n) = labelled (codes "flows") (decimal q) (decimal n ∷ []) refl
    (decimal-IsField q) (decimal-IsField n, tt)
command-AreFields (command.Sock n) = labelled (codes "sock") (decimal n) [] refl
    (decimal-IsField n) tt
command-AreFields (command.Offline c) = labelled (codes "offline") (decimal c) [] refl
    (decimal-IsField c) tt
command-AreFields (command.Online c) = labelled (codes "online") (decimal c) [] refl
    (decimal-IsField c) tt
command-AreFields (command.XCpus t m) = labelled (codes "xcpus") (decimal t) (cpus_field m
    ∷ []) refl (decimal-IsField t) (cpus-IsField m, tt)
command-AreFields (command.XQueues t m) = labelled (codes "xqueues") (decimal t) (queues_field m
    ∷ []) refl (decimal-IsField t) (queues-IsField m, tt)
command-AreFields (command.Reta i q) = labelled (codes "reta") (decimal i) (decimal q ∷ []) refl
    (decimal-IsField i) (decimal-IsField q, tt)
command-AreFields (command.Stand a c) = labelled (codes "stand") (decimal a) (decimal c ∷ []) refl
    (decimal-IsField a) (decimal-IsField c, tt)
command-AreFields command.Expire = worded (codes "expire") [] refl tt

idle-AreFields : (i : Idle) → AreFields (idle_fields i)
idle-AreFields AlreadyOnline = worded (codes "online") [] refl tt
idle-AreFields i = tt

answer-AreFields : (a : Answer) → AreFields (answer_fields a)
answer-AreFields answer.Done = worded (codes "done") [] refl tt
answer-AreFields (answer.Idle i) = worded (codes "idle") (idle_fields i) refl (idle-AreFields i)
answer-AreFields (answer.Busy (Inside n)) =
    worded (codes "busy") (busy_fields (Inside n)) refl (labelled (codes "inside")
    (decimal n) [] refl (decimal-IsField n) tt)
answer-AreFields (answer.Busy (NotEmpty l h t)) =
    worded (codes "busy") (busy_fields (NotEmpty l h t)) refl
    (labelled (codes "lane") (decimal l) (codes "head" ∷ decimal h ∷ codes "tail" ∷ decimal t
    ∷ []) refl (decimal-IsField l)
    (labelled (codes "head") (decimal h) (codes "tail" ∷ decimal t ∷ []) refl (decimal-IsField h)
    (labelled (codes "tail") (decimal t) [] refl (decimal-IsField t) tt)))
answer-AreFields (answer.CpuInUse (Queue q)) =
    labelled (codes "in") (codes "use") (user_fields (Queue q)) refl
    (word-IsField (codes "use") refl) (labelled (codes "queue") (decimal q) [] refl
    (decimal-IsField q) tt)
answer-AreFields (answer.CpuInUse (App a)) =
    labelled (codes "in") (codes "use") (user_fields (App a)) refl (word-IsField (codes "use") refl)
    (labelled (codes "app") (decimal a) [] refl (decimal-IsField a) tt)
answer-AreFields answer.CpuOffline = labelled (codes "cpu") (codes "offline") [] refl
    (word-IsField (codes "offline") refl) tt
answer-AreFields (answer.Expired n) = labelled (codes "expired") (decimal n) [] refl
    (decimal-IsField n) tt

-- Rows, one after another.
abbrev tag : List ℕ → ℕ
tag [] = 0
tag (x ∷ xs) = x + 256 * tag xs

-- a word that is not that of a tap
not_tap : (w : List ℕ) → (tag w == tag (codes "tap")) ≡ false → w ≢ codes "tap"
not_tap w h e = let f : (tag w == tag (codes "tap")) ≡ true = eq-eqb (tag w) (tag (codes "tap"))
    (ap tag e) in cc

line-IsRow : (w : List ℕ) (fs : List (List ℕ)) → is_field w ≡ true
    → (tag w == tag (codes "tap")) ≡ false → AreFields fs → IsRow (Line w fs)
line-IsRow w fs a b c = (word-IsField w a, c, not_tap w b)

AreRows-append : (xs ys : List Row) → AreRows xs → AreRows ys → AreRows (xs ++ ys)
AreRows-append [] ys a b = b
AreRows-append (x ∷ xs) ys a b = (a.0, AreRows-append xs ys a.1 b)

AreRows-map : {A : Type 0} (f : A → Row) (xs : List A) → ((a : A) → IsRow (f a))
    → AreRows (map f xs)
AreRows-map f [] h = tt
AreRows-map f (x ∷ xs) h = (h x, AreRows-map f xs h)

AreRows-numbered : {A : Type 0} (f : ℕ → A → Row) (i : ℕ) (xs : List A)
    → ((j : ℕ) (a : A) → IsRow (f j a)) → AreRows (numbered f i xs)
AreRows-numbered f i [] h = tt
AreRows-numbered f i (x ∷ xs) h = (h i x, AreRows-numbered f (suc i) xs h)

packet_row-IsRow : (l : PacketLine) → IsRow (packet_row l)
packet_row-IsRow l = line-IsRow (codes "p") (packet_fields l) refl refl (packet-AreFields l)

reply_row-IsRow : (r : ReplyLine) → IsRow (reply_row r)
reply_row-IsRow r = line-IsRow (codes "r") (reply_fields r) refl refl (reply-AreFields r)

reply-head : (o : Option ReplyLine) (rows : List Row) → AreRows rows
    → AreRows (cons_option (option_map reply_row o) rows)
reply-head None rows h = h
reply-head (Some r) rows h = (reply_row-IsRow r, h)

replies-AreRows : (lines : List (Option ReplyLine)) → AreRows (reply_rows lines)
replies-AreRows [] = tt
replies-AreRows (l ∷ lines) = reply-head l (reply_rows lines) (replies-AreRows lines)

queue_row-IsRow : (q n t : ℕ) → IsRow (queue_row q n t)
queue_row-IsRow q n t =
    line-IsRow (codes "queue") (decimal q ∷ codes "arrived" ∷ decimal n ∷ codes "taken" ∷ decimal t
    ∷ []) refl refl (
      decimal-IsField q,
      (
        word-IsField (codes "arrived") refl,
        (decimal-IsField n, (word-IsField (codes "taken") refl, (decimal-IsField t, tt))),
      ),
    )

cpu_row-IsRow : (c : ℕ) (l : LaneList) → IsRow (cpu_row c l)
cpu_row-IsRow c l =
    line-IsRow (codes "cpu") (decimal c ∷ (lane_fields l ++ codes "dropped"
    ∷ decimal (length l.drops) ∷ [])) refl refl (
      decimal-IsField c,
      AreFields-append (lane_fields l) (codes "dropped" ∷ decimal (length l.drops) ∷ [])
          (lane-AreFields l)
          (labelled (codes "dropped") (decimal (length l.drops)) [] refl
          (decimal-IsField (length l.drops)) tt),
    )

tx_row-IsRow : (t : ℕ) (l : LaneList) → IsRow (tx_row t l)
tx_row-IsRow t l = line-IsRow (codes "tx") (decimal t ∷ lane_fields l) refl refl
    (decimal-IsField t, lane-AreFields l)

write_row-IsRow : (a : ℕ) (w : SockWrite) → IsRow (write_row a w)
write_row-IsRow a w =
    line-IsRow (codes "w") (codes "app" ∷ decimal a ∷ codes "entry" ∷ decimal w.entry ∷ codes "cpu"
    ∷ decimal w.cpu ∷ []) refl refl (
      word-IsField (codes "app") refl,
      (
        decimal-IsField a,
        (
          word-IsField (codes "entry") refl,
          (
            decimal-IsField w.entry,
            (word-IsField (codes "cpu") refl, (decimal-IsField w.cpu, tt)),
          ),
        ),
      ),
    )

writes-AreRows : (a : ℕ) (writes : List (List SockWrite)) → AreRows (write_rows a writes)
writes-AreRows a [] = tt
writes-AreRows a (ws ∷ rest) =
    AreRows-append (map (write_row a) ws) (write_rows (suc a) rest) (AreRows-map (write_row a) ws
    (write_row-IsRow a)) (writes-AreRows (suc a) rest)

command_row-IsRow : (i : ℕ) (c : Commanded) → IsRow (command_row i c)
command_row-IsRow i c =
    line-IsRow (codes "c") (decimal i ∷ (command_fields c.command ++ answer_fields c.answer)) refl
    refl (
      decimal-IsField i,
      AreFields-append (command_fields c.command) (answer_fields c.answer)
          (command-AreFields c.command) (answer-AreFields c.answer),
    )

taps-AreRows : (i : ℕ) (texts : List (List ℕ)) → i + length texts ≤ 2 ^ 64
    → All (λ text. length text < 2 ^ 64) texts → AreRows (numbered Tap i texts)
taps-AreRows i [] l h = tt
taps-AreRows i (t ∷ texts) l h = (
  (omega (arith, l), All-head (λ text. length text < 2 ^ 64) t texts h),
  taps-AreRows (suc i) texts (omega (arith, l)) (All-tail (λ text. length text < 2 ^ 64) t texts h),
)

end_row-IsRow : (n t : ℕ) (o : Option ℕ) → IsRow (end_row n t o)
end_row-IsRow n t o =
    line-IsRow (codes "end") (decimal n ∷ codes "of" ∷ decimal t ∷ cut_fields o) refl refl
    (decimal-IsField n, (word-IsField (codes "of") refl, (decimal-IsField t, cut-AreFields o)))

pub has_rows : HasRows
has_rows lines h texts fit = (
  line-IsRow (codes "steer") (codes "1" ∷ []) refl refl (word-IsField (codes "1") refl, tt),
  AreRows-append (packet_rows lines.packets) _
      (AreRows-map packet_row lines.packets packet_row-IsRow)
      (AreRows-append (reply_rows lines.replies) _ (replies-AreRows lines.replies)
      (AreRows-append (queue_rows lines.arrived h.taken) _
      (AreRows-numbered (λ queue count. queue_row queue (slice_index lines.arrived queue) count) 0
      h.taken (λ q n. queue_row-IsRow q (slice_index lines.arrived q) n))
      (AreRows-append (cpu_rows h.lanes) _ (AreRows-numbered cpu_row 0 h.lanes cpu_row-IsRow)
      (AreRows-append (tx_rows h.tx_lanes) _ (AreRows-numbered tx_row 0 h.tx_lanes tx_row-IsRow)
      (AreRows-append (write_rows 0 h.writes) _ (writes-AreRows 0 h.writes)
      (AreRows-append (command_rows h.commands) _
      (AreRows-numbered command_row 0 h.commands command_row-IsRow)
      (AreRows-append (tap_rows texts) _ (taps-AreRows 0 texts (omega (arith, fit.count)) fit.bytes)
      (end_row-IsRow (length h.arrivals) h.total h.cut, tt)))))))),
)
