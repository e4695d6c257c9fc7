-- The sections of a report are found again in its rows, by the first words of these.
use Rattle.std.proofs.Common.{◌≡◌, ℕ, suc, ◌<◌, List, [], ◌∷◌, ◌++◌, Option, Some, None, length}
use Rattle.std.proofs.Common.{map, refl, sym, ap, subst, arith}
use Rattle.std.specs.Prelude.{codes, ⊤, if◌then◌else◌, slice_index}
use Rattle.std.specs.Str.{bytes_eq}
use Rattle.std.specs.List.{cons_option}
use Rattle.std.specs.Option.{option_map}
use Rattle.history.specs.Lines.{LineLists}
use Rattle.history.specs.declared.history.History.{History}
use Rattle.history.specs.declared.lane_list.LaneList.{LaneList}
use Rattle.history.specs.declared.packet_line.PacketLine.{PacketLine}
use Rattle.history.specs.declared.reply_line.ReplyLine.{ReplyLine}
use Rattle.history.specs.declared.sock_write.SockWrite.{SockWrite}
use Rattle.report.specs.Commands.{command_row}
use Rattle.report.specs.Lines.{packet_row, reply_row, queue_row, cpu_row, tx_row, write_row}
use Rattle.report.specs.Lines.{end_row}
use Rattle.report.specs.Report.{numbered, packet_rows, reply_rows, queue_rows, cpu_rows, tx_rows}
use Rattle.report.specs.Report.{write_rows, command_rows, tap_rows, rows_of}
use Rattle.report.specs.Texts.{Row, word}
use Rattle.report.specs.Texts.Row.{Tap}

abbrev pub Each : (Row → Type 0) → List Row → Type 0
Each P [] = ⊤
Each P (r ∷ rows) = P r × Each P rows

abbrev pub first : Row → List Row → Row
first d [] = d
first d (r ∷ rows) = r

abbrev pub others : List Row → List Row
others [] = []
others (r ∷ rows) = rows

-- a part whose rows have a mark, before rows that have it not
pub split : (P : Row → Type 0) (xs ys r s : List Row) → Each P xs → Each P ys
    → Each (λ i. P i → ⊥) r → Each (λ i. P i → ⊥) s
    → xs ++ r ≡ ys ++ s → (xs ≡ ys) × (r ≡ s)
split P [] [] r s a b c d e = (refl, e)
split P [] (y ∷ ys) [] s a b c d e = absurd (cc)
split P [] (y ∷ ys) (x ∷ r) s a b c d e =
    let f : x ≡ y = ap (first x) e in absurd (c.0 (subst P (sym f) b.0))
split P (x ∷ xs) [] r [] a b c d e = absurd (cc)
split P (x ∷ xs) [] r (y ∷ s) a b c d e =
    let f : x ≡ y = ap (first x) e in absurd (d.0 (subst P f a.0))
split P (x ∷ xs) (y ∷ ys) r s a b c d e =
    let f : x ≡ y = ap (first x) e in
    let rest = split P xs ys r s a.1 b.1 c d (ap others e) in
    ((λ i. f i ∷ rest.0 i), rest.1)

pub Each-append : (P : Row → Type 0) (xs ys : List Row) → Each P xs → Each P ys → Each P (xs ++ ys)
Each-append P [] ys a b = b
Each-append P (x ∷ xs) ys a b = (a.0, Each-append P xs ys a.1 b)

pub Each-map : {A : Type 0} (P : Row → Type 0) (f : A → Row) (xs : List A) → ((a : A) → P (f a))
    → Each P (map f xs)
Each-map P f [] h = tt
Each-map P f (x ∷ xs) h = (h x, Each-map P f xs h)

pub Each-numbered : {A : Type 0} (P : Row → Type 0) (f : ℕ → A → Row) (i : ℕ) (xs : List A)
    → ((j : ℕ) (a : A) → P (f j a)) → Each P (numbered f i xs)
Each-numbered P f i [] h = tt
Each-numbered P f i (x ∷ xs) h = (h i x, Each-numbered P f (suc i) xs h)

reply-head : (P : Row → Type 0) (o : Option ReplyLine) (rows : List Row)
    → ((r : ReplyLine) → P (reply_row r)) → Each P rows
    → Each P (cons_option (option_map reply_row o) rows)
reply-head P None rows h e = e
reply-head P (Some r) rows h e = (h r, e)

pub Each-replies : (P : Row → Type 0) (lines : List (Option ReplyLine))
    → ((r : ReplyLine) → P (reply_row r)) → Each P (reply_rows lines)
Each-replies P [] h = tt
Each-replies P (l ∷ lines) h = reply-head P l (reply_rows lines) h (Each-replies P lines h)

pub Each-writes : (P : Row → Type 0) (app : ℕ) (writes : List (List SockWrite))
    → ((a : ℕ) (w : SockWrite) → P (write_row a w)) → Each P (write_rows app writes)
Each-writes P app [] h = tt
Each-writes P app (ws ∷ rest) h =
    Each-append P (map (write_row app) ws) (write_rows (suc app) rest)
    (Each-map P (write_row app) ws (h app)) (Each-writes P (suc app) rest h)

Each-weaker : (P Q : Row → Type 0) → ((r : Row) → P r → Q r) → (rows : List Row) → Each P rows
    → Each Q rows
Each-weaker P Q h [] e = tt
Each-weaker P Q h (r ∷ rows) e = (h r e.0, Each-weaker P Q h rows e.1)

-- the section that a row is of, by its first word
abbrev section : Row → ℕ
section r =
    if bytes_eq (word r) (codes "p") then 1 else if bytes_eq (word r) (codes "r") then 2 else
    if bytes_eq (word r) (codes "queue") then 3 else if bytes_eq (word r) (codes "cpu") then 4 else
    if bytes_eq (word r) (codes "tx") then 5 else if bytes_eq (word r) (codes "w") then 6 else
    if bytes_eq (word r) (codes "c") then 7 else if bytes_eq (word r) (codes "tap") then 8 else 9

abbrev Of : ℕ → Row → Type 0
Of n r = section r ≡ n

abbrev Past : ℕ → Row → Type 0
Past n r = n < section r

-- a section before later ones
section-split : (n : ℕ) (xs ys r s : List Row) → Each (Of n) xs → Each (Of n) ys → Each (Past n) r
    → Each (Past n) s → xs ++ r ≡ ys ++ s → (xs ≡ ys) × (r ≡ s)
section-split n xs ys r s a b c d e =
    let not_of : (i : Row) → Past n i → Of n i → ⊥ = λ i p o. omega (arith, p, o) in
    split (Of n) xs ys r s a b (Each-weaker (Past n) (λ i. Of n i → ⊥) not_of r c)
    (Each-weaker (Past n) (λ i. Of n i → ⊥) not_of s d) e

-- a section and the later ones are past the one before it
section-past : (m n : ℕ) (xs r : List Row) → n ≡ suc m → Each (Of n) xs → Each (Past n) r
    → Each (Past m) (xs ++ r)
section-past m n xs r s a b =
    Each-append (Past m) xs r (Each-weaker (Of n) (Past m) (λ i o. omega (arith, o, s)) xs a)
    (Each-weaker (Past n) (Past m) (λ i p. omega (arith, p, s)) r b)

-- The sections of a report.
packets-of : (lines : List PacketLine) → Each (Of 1) (packet_rows lines)
packets-of lines = Each-map (Of 1) packet_row lines (λ l. refl)

replies-of : (lines : List (Option ReplyLine)) → Each (Of 2) (reply_rows lines)
replies-of lines = Each-replies (Of 2) lines (λ r. refl)

queues-of : (arrived taken : List ℕ) → Each (Of 3) (queue_rows arrived taken)
queues-of arrived taken = Each-numbered (Of 3) (λ queue count. queue_row queue
    (slice_index arrived queue) count) 0 taken (λ q n. refl)

cpus-of : (lanes : List LaneList) → Each (Of 4) (cpu_rows lanes)
cpus-of lanes = Each-numbered (Of 4) cpu_row 0 lanes (λ c l. refl)

txs-of : (lanes : List LaneList) → Each (Of 5) (tx_rows lanes)
txs-of lanes = Each-numbered (Of 5) tx_row 0 lanes (λ c l. refl)

writes-of : (writes : List (List SockWrite)) → Each (Of 6) (write_rows 0 writes)
writes-of writes = Each-writes (Of 6) 0 writes (λ a w. refl)

commands-of : (h : History) → Each (Of 7) (command_rows h.commands)
commands-of h = Each-numbered (Of 7) command_row 0 h.commands (λ i c. refl)

taps-of : (texts : List (List ℕ)) → Each (Of 8) (tap_rows texts)
taps-of texts = Each-numbered (Of 8) Tap 0 texts (λ i t. refl)

abbrev last_rows : History → List Row
last_rows h = end_row (length h.arrivals) h.total h.cut ∷ []

abbrev from_taps : History → List (List ℕ) → List Row
from_taps h texts = tap_rows texts ++ last_rows h

abbrev from_commands : History → List (List ℕ) → List Row
from_commands h texts = command_rows h.commands ++ from_taps h texts

abbrev from_writes : History → List (List ℕ) → List Row
from_writes h texts = write_rows 0 h.writes ++ from_commands h texts

abbrev from_txs : History → List (List ℕ) → List Row
from_txs h texts = tx_rows h.tx_lanes ++ from_writes h texts

abbrev from_cpus : History → List (List ℕ) → List Row
from_cpus h texts = cpu_rows h.lanes ++ from_txs h texts

abbrev from_queues : LineLists → History → List (List ℕ) → List Row
from_queues lines h texts = queue_rows lines.arrived h.taken ++ from_cpus h texts

abbrev from_replies : LineLists → History → List (List ℕ) → List Row
from_replies lines h texts = reply_rows lines.replies ++ from_queues lines h texts

past_taps : (h : History) → Each (Past 8) (last_rows h)
past_taps h = (omega arith, tt)

past_commands : (h : History) (texts : List (List ℕ)) → Each (Past 7) (from_taps h texts)
past_commands h texts = section-past 7 8 (tap_rows texts) (last_rows h) refl (taps-of texts)
    (past_taps h)

past_writes : (h : History) (texts : List (List ℕ)) → Each (Past 6) (from_commands h texts)
past_writes h texts = section-past 6 7 (command_rows h.commands) (from_taps h texts) refl
    (commands-of h) (past_commands h texts)

past_txs : (h : History) (texts : List (List ℕ)) → Each (Past 5) (from_writes h texts)
past_txs h texts = section-past 5 6 (write_rows 0 h.writes) (from_commands h texts) refl
    (writes-of h.writes) (past_writes h texts)

past_cpus : (h : History) (texts : List (List ℕ)) → Each (Past 4) (from_txs h texts)
past_cpus h texts = section-past 4 5 (tx_rows h.tx_lanes) (from_writes h texts) refl
    (txs-of h.tx_lanes) (past_txs h texts)

past_queues : (h : History) (texts : List (List ℕ)) → Each (Past 3) (from_cpus h texts)
past_queues h texts = section-past 3 4 (cpu_rows h.lanes) (from_txs h texts) refl (cpus-of h.lanes)
    (past_cpus h texts)

past_replies : (lines : LineLists) (h : History) (texts : List (List ℕ)) → Each (Past 2)
    (from_queues lines h texts)
past_replies lines h texts =
    section-past 2 3 (queue_rows lines.arrived h.taken) (from_cpus h texts) refl
    (queues-of lines.arrived h.taken) (past_queues h texts)

past_packets : (lines : LineLists) (h : History) (texts : List (List ℕ)) → Each (Past 1)
    (from_replies lines h texts)
past_packets lines h texts =
    section-past 1 2 (reply_rows lines.replies) (from_queues lines h texts) refl
    (replies-of lines.replies) (past_replies lines h texts)

-- Two reports of the same rows have the same sections.
pub record SameSections (l m : LineLists) (h k : History) (texts more : List (List ℕ)) : Type 0
  where
    pub packets : packet_rows l.packets ≡ packet_rows m.packets
    pub replies : reply_rows l.replies ≡ reply_rows m.replies
    pub queues : queue_rows l.arrived h.taken ≡ queue_rows m.arrived k.taken
    pub cpus : cpu_rows h.lanes ≡ cpu_rows k.lanes
    pub txs : tx_rows h.tx_lanes ≡ tx_rows k.tx_lanes
    pub writes : write_rows 0 h.writes ≡ write_rows 0 k.writes
    pub commands : command_rows h.commands ≡ command_rows k.commands
    pub taps : tap_rows texts ≡ tap_rows more
    pub last : end_row (length h.arrivals) h.total h.cut ≡ end_row (length k.arrivals) k.total k.cut

pub same_sections : (l m : LineLists) (h k : History) (texts more : List (List ℕ))
    → rows_of l h texts ≡ rows_of m k more → SameSections l m h k texts more
same_sections l m h k texts more e =
    let p = section-split 1 (packet_rows l.packets) (packet_rows m.packets) (from_replies l h texts)
    (from_replies m k more)
    (packets-of l.packets) (packets-of m.packets) (past_packets l h texts) (past_packets m k more)
    (ap others e) in
    let r = section-split 2 (reply_rows l.replies) (reply_rows m.replies) (from_queues l h texts)
    (from_queues m k more)
    (replies-of l.replies) (replies-of m.replies) (past_replies l h texts)
    (past_replies m k more) p.1 in
    let q = section-split 3 (queue_rows l.arrived h.taken) (queue_rows m.arrived k.taken)
    (from_cpus h texts) (from_cpus k more)
    (queues-of l.arrived h.taken) (queues-of m.arrived k.taken) (past_queues h texts)
    (past_queues k more) r.1 in
    let c = section-split 4 (cpu_rows h.lanes) (cpu_rows k.lanes) (from_txs h texts)
    (from_txs k more)
    (cpus-of h.lanes) (cpus-of k.lanes) (past_cpus h texts) (past_cpus k more) q.1 in
    let t = section-split 5 (tx_rows h.tx_lanes) (tx_rows k.tx_lanes) (from_writes h texts)
    (from_writes k more)
    (txs-of h.tx_lanes) (txs-of k.tx_lanes) (past_txs h texts) (past_txs k more) c.1 in
    let w = section-split 6 (write_rows 0 h.writes) (write_rows 0 k.writes) (from_commands h texts)
    (from_commands k more)
    (writes-of h.writes) (writes-of k.writes) (past_writes h texts) (past_writes k more) t.1 in
    let o = section-split 7 (command_rows h.commands) (command_rows k.commands) (from_taps h texts)
    (from_taps k more)
    (commands-of h) (commands-of k) (past_commands h texts) (past_commands k more) w.1 in
    let a = section-split 8 (tap_rows texts) (tap_rows more) (last_rows h) (last_rows k)
    (taps-of texts) (taps-of more) (past_taps h) (past_taps k) o.1 in
    record {
      packets = p.0;
      replies = r.0;
      queues = q.0;
      cpus = c.0;
      txs = t.0;
      writes = w.0;
      commands = o.0;
      taps = a.0;
      last = ap (first (Tap 0 [])) a.1;
    }
