-- How many bytes a row of each kind has at least.
use Rattle.std.proofs.Common.{ℕ, zero, suc, ◌≡◌, ◌≤◌, ◌+◌, ◌/◌, ◌%◌, ◌++◌, List, [], ◌∷◌}
use Rattle.std.proofs.Common.{length, refl, arith, decimal, cond, true, false, Bool, Option}
use Rattle.std.proofs.Common.{Some, None}
use Rattle.std.proofs.lemmas.List.{length-append}
use Rattle.std.specs.Prelude.{◌==◌, codes}
use Rattle.std.specs.Fmt.{digits, digit_glyph, digits_onto}
use Rattle.steer_base.specs.declared.command.Answer.{Answer}
use Rattle.steer_base.specs.declared.command.Answer.TheVariants as answer
use Rattle.steer_base.specs.declared.command.Command.{Command}
use Rattle.steer_base.specs.declared.command.Command.TheVariants as command
use Rattle.steer_base.specs.declared.choice.Why.{Why}
use Rattle.steer_base.specs.declared.choice.Why.TheVariants as why
use Rattle.steer_base.specs.declared.put.Put.{Put}
use Rattle.steer_base.specs.declared.put.Put.TheVariants.{At, Dropped}
use Rattle.history.specs.declared.commanded.Commanded.{Commanded}
use Rattle.history.specs.declared.lane_list.LaneList.{LaneList}
use Rattle.history.specs.declared.packet_line.PacketLine.{PacketLine}
use Rattle.history.specs.declared.packet_line.Via.{Via}
use Rattle.history.specs.declared.packet_line.Via.TheVariants.{Filter, Reta, Unhashed}
use Rattle.history.specs.declared.place.Place.{Place}
use Rattle.history.specs.declared.place.Place.TheVariants as place
use Rattle.history.specs.declared.reply_line.ReplyLine.{ReplyLine}
use Rattle.history.specs.declared.sock_write.SockWrite.{SockWrite}
use Rattle.report.specs.Commands.{answer_fields, command_fields, command_row}
use Rattle.report.specs.Lines.{class_in, cpu_row, head_in, lane_fields, lane_in}
use Rattle.report.specs.Lines.{last_fields, or_dash, packet_row, place_word, put_fields, queue_row}
use Rattle.report.specs.Lines.{reply_row, tail_in, tx_row, via_word, want_in, why_in, why_word}
use Rattle.report.specs.Lines.{write_row}
use Rattle.report.specs.Texts.{Row, body, fields, further, row_text, word}
use Rattle.report.specs.Texts.Row.{Tap}
use Rattle.report_reader.specs.declared.shortest.TheConstants.{SHORTEST_COMMAND, SHORTEST_CPU}
use Rattle.report_reader.specs.declared.shortest.TheConstants.{SHORTEST_PACKET, SHORTEST_QUEUE}
use Rattle.report_reader.specs.declared.shortest.TheConstants.{SHORTEST_REPLY, SHORTEST_TAP}
use Rattle.report_reader.specs.declared.shortest.TheConstants.{SHORTEST_TX, SHORTEST_WRITE}

-- a row with at least so many bytes
abbrev pub IsLong : ℕ → Row → Type 0
IsLong n r = n ≤ length (row_text r)

either-long : (n : ℕ) (b : Bool) (xs ys : List ℕ) → n ≤ length xs → n ≤ length ys
    → n ≤ length (cond b xs ys)
either-long n true xs ys a b = a
either-long n false xs ys a b = b

onto-long : (k n : ℕ) (ds : List ℕ) → length ds ≤ length (digits_onto k 10 false n ds)
onto-long zero n ds = omega arith
onto-long (suc k) n ds =
    let i = onto-long k (n / 10) (digit_glyph false (n % 10) ∷ ds) in
    either-long (length ds) (n / 10 == 0) (digit_glyph false (n % 10) ∷ ds)
    (digits_onto k 10 false (n / 10) (digit_glyph false (n % 10) ∷ ds)) (omega arith)
    (omega (arith, i))

-- a number has a digit
decimal-some : (n : ℕ) → 1 ≤ length (decimal n)
unfolding digits
decimal-some n =
    either-long 1 (n / 10 == 0) (digit_glyph false (n % 10) ∷ [])
    (digits_onto 63 10 false (n / 10) (digit_glyph false (n % 10) ∷ [])) (omega arith)
    (onto-long 63 (n / 10) (digit_glyph false (n % 10) ∷ []))

-- the bytes of further fields, each after a space
abbrev width : List (List ℕ) → ℕ
width [] = 0
width (f ∷ fs) = suc (length f) + width fs

further-long : (fs : List (List ℕ)) → length (further fs) ≡ width fs + 1
further-long [] = refl
further-long (f ∷ fs) =
    let a = length-append f (further fs) in let i = further-long fs in omega (arith, a, i)

row-long : (r : Row) → length (row_text r) ≡ length (word r) + width (fields r) + 1
    + length (body r)
row-long r =
    let f = further-long (fields r) in
    let a = length-append (word r) (further (fields r)) in
    let b = length-append (word r ++ further (fields r)) (body r) in omega (arith, f, a, b)

dash-some : (o : Option ℕ) → 1 ≤ length (or_dash o)
dash-some None = omega arith
dash-some (Some n) = decimal-some n

via-some : (v : Via) → 4 ≤ length (via_word v)
via-some Filter = omega arith
via-some Reta = omega arith
via-some Unhashed = omega arith

why-some : (o : Option Why) → 1 ≤ length (why_word o)
why-some None = omega arith
why-some (Some why.Plain) = omega arith
why-some (Some why.Same) = omega arith
why-some (Some why.Unset) = omega arith
why-some (Some why.Offline) = omega arith
why-some (Some why.Passed) = omega arith
why-some (Some why.Kept) = omega arith

place-some : (p : Place) → 4 ≤ length (place_word p)
place-some place.Ring = omega arith
place-some place.Poller = omega arith
place-some (place.Backlog cpu) = omega arith
place-some (place.Hand cpu) = omega arith
place-some (place.Inbox app) = omega arith
place-some (place.Dropped cpu) = omega arith

width-append : (fs gs : List (List ℕ)) → width (fs ++ gs) ≡ width fs + width gs
width-append [] gs = omega arith
width-append (f ∷ fs) gs = let i = width-append fs gs in omega (arith, i)

put-long : (o : Option Put) → 2 ≤ width (put_fields o)
put-long None = omega arith
put-long (Some (At position)) = let p = decimal-some position in omega (arith, p)
put-long (Some (Dropped number accepted pulled cause)) = omega arith

last-long : (l : PacketLine) → 22 ≤ width (last_fields l)
last-long l =
    let a = decimal-some l.app in
    let i = dash-some l.inbox in let p = place-some l.place in omega (arith, a, i, p)

pub packet-long : (l : PacketLine) → IsLong SHORTEST_PACKET (packet_row l)
packet-long l =
    let k = row-long (packet_row l) in
    let i = decimal-some l.id in
    let q = decimal-some l.queue in
    let v = via-some l.via in
    let c = dash-some (class_in l.choice) in
    let w = dash-some (want_in l.choice) in
    let h = dash-some (head_in l.choice) in
    let t = dash-some (tail_in l.choice) in
    let n = dash-some (lane_in l.choice) in
    let y = why-some (why_in l.choice) in
    let a = width-append (put_fields l.put) (last_fields l) in
    let p = put-long l.put in
    let e = last-long l in omega (arith, k, i, q, v, c, w, h, t, n, y, a, p, e)

pub reply-long : (r : ReplyLine) → IsLong SHORTEST_REPLY (reply_row r)
reply-long r =
    let k = row-long (reply_row r) in
    let i = decimal-some r.id in
    let a = decimal-some r.app in
    let q = decimal-some r.rxq in
    let c = decimal-some r.cpu in
    let w = dash-some (want_in r.choice) in
    let h = dash-some (head_in r.choice) in
    let t = dash-some (tail_in r.choice) in
    let n = dash-some (lane_in r.choice) in
    let y = why-some (why_in r.choice) in
    let p = dash-some r.put in
    let o = dash-some r.port in omega (arith, k, i, a, q, c, w, h, t, n, y, p, o)

pub queue-long : (queue arrived taken : ℕ) → IsLong SHORTEST_QUEUE (queue_row queue arrived taken)
queue-long queue arrived taken =
    let l = row-long (queue_row queue arrived taken) in
    let q = decimal-some queue in
    let a = decimal-some arrived in let t = decimal-some taken in omega (arith, l, q, a, t)

lane-long : (l : LaneList) → 42 ≤ width (lane_fields l)
lane-long l =
    let a = decimal-some (length l.accepted) in
    let p = decimal-some l.pulled in
    let d = decimal-some l.delivered in let r = decimal-some l.retired in omega (arith, a, p, d, r)

pub cpu-long : (cpu : ℕ) (l : LaneList) → IsLong SHORTEST_CPU (cpu_row cpu l)
cpu-long cpu l =
    let k = row-long (cpu_row cpu l) in
    let c = decimal-some cpu in
    let a = width-append (lane_fields l) (codes "dropped" ∷ decimal (length l.drops) ∷ []) in
    let s = lane-long l in
    let d = decimal-some (length l.drops) in omega (arith, k, c, a, s, d)

pub tx-long : (tx : ℕ) (l : LaneList) → IsLong SHORTEST_TX (tx_row tx l)
tx-long tx l =
    let k = row-long (tx_row tx l) in
    let t = decimal-some tx in let s = lane-long l in omega (arith, k, t, s)

pub write-long : (app : ℕ) (w : SockWrite) → IsLong SHORTEST_WRITE (write_row app w)
write-long app w =
    let l = row-long (write_row app w) in
    let a = decimal-some app in
    let e = decimal-some w.entry in let c = decimal-some w.cpu in omega (arith, l, a, e, c)

step-long : (c : Command) → 7 ≤ width (command_fields c)
step-long (command.Mask queue cpus) = let q = decimal-some queue in omega (arith, q)
step-long (command.Flows queue count) = omega arith
step-long (command.Sock size) = let s = decimal-some size in omega (arith, s)
step-long (command.Offline cpu) = omega arith
step-long (command.Online cpu) = omega arith
step-long (command.XCpus tx cpus) = omega arith
step-long (command.XQueues tx queues) = omega arith
step-long (command.Reta place queue) = let p = decimal-some place in omega (arith, p)
step-long (command.Stand app cpu) = omega arith
step-long command.Expire = omega arith

answer-long : (a : Answer) → 5 ≤ width (answer_fields a)
answer-long answer.Done = omega arith
answer-long (answer.Idle idle) = omega arith
answer-long (answer.Busy busy) = omega arith
answer-long (answer.CpuInUse user) = omega arith
answer-long answer.CpuOffline = omega arith
answer-long (answer.Expired filters) = omega arith

pub command-long : (number : ℕ) (c : Commanded) → IsLong SHORTEST_COMMAND (command_row number c)
command-long number c =
    let l = row-long (command_row number c) in
    let n = decimal-some number in
    let w = width-append (command_fields c.command) (answer_fields c.answer) in
    let s = step-long c.command in
    let a = answer-long c.answer in omega (arith, l, n, w, s, a)

-- the row of a tap is as long without its text
pub tap-long : (number : ℕ) (text : List ℕ)
    → SHORTEST_TAP + length text ≤ length (row_text (Tap number text))
tap-long number text =
    let l = row-long (Tap number text) in
    let n = decimal-some number in
    let t = decimal-some (length text) in omega (arith, l, n, t)
