-- Two histories of one report have the same lines, sums, writes and commands.
use Rattle.std.proofs.Common.{◌≡◌, ℕ, zero, suc, ◌<◌, ◌^◌, ◌≤◌, ◌+◌, true, List, [], ◌∷◌, Option}
use Rattle.std.proofs.Common.{Some, None, length, map, refl, sym, ap, ◌∙◌, subst, arith, decimal}
use Rattle.std.specs.Prelude.{⊤, slice_index}
use Rattle.std.specs.List.{All, cons_option, range_with_len}
use Rattle.std.specs.Option.{option_map, IfSome}
use Rattle.std.proofs.lemmas.Fmt.{decimal_injective}
use Rattle.std.proofs.lemmas.List.Elements.{All-head, All-tail}
use Rattle.steer_base.specs.declared.packet.Packet.{Packet}
use Rattle.history.specs.Lines.{packet_line, reply_line, line_of_sent, first_reply_to, lines_of}
use Rattle.history.specs.Ranges.{FitsIn, LaneFits, WriteFits, CommandedFits, ReplyFits}
use Rattle.history.specs.Ranges.{HaveLinesThatFit}
use Rattle.history.specs.Regular.{has_text}
use Rattle.history.specs.Shown.{sums_of, SameReply, SameShown, IsFoundAgain}
use Rattle.history.specs.declared.commanded.Commanded.{Commanded}
use Rattle.history.specs.declared.history.History.{History}
use Rattle.history.specs.declared.lane_list.LaneList.{LaneList}
use Rattle.history.specs.declared.reply_line.ReplyLine.{ReplyLine}
use Rattle.history.specs.declared.sent.Sent.{Sent}
use Rattle.history.specs.declared.sock_write.SockWrite.{SockWrite}
use Rattle.report.specs.Commands.{command_row, answer_fields}
use Rattle.report.specs.Laws.{IsReportOf, HasOneHistory}
use Rattle.report.specs.Lines.{packet_row, reply_row, queue_row, cpu_row, tx_row, write_row}
use Rattle.report.specs.Lines.{cut_fields}
use Rattle.report.specs.Report.{numbered, reply_rows, write_rows, tap_rows, rows_of}
use Rattle.report.specs.Texts.{Row, fields}
use Rattle.report.specs.Texts.Row.{Line, Tap}
use Rattle.report.proofs.CommandSpelling.{command-same, answer-same}
use Rattle.report.proofs.Cuts.{same_rows}
use Rattle.report.proofs.ReportRows.{has_rows}
use Rattle.report.proofs.SameSections.{Each, first, others, split, Each-append, Each-map}
use Rattle.report.proofs.SameSections.{SameSections, same_sections}
use Rattle.report.proofs.Spelling.{field, after, number-same, byte-same, packet-same, reply-same}

-- what holds of the first number and of those behind it holds of all
further_on : {A : Type 0} (f g : ℕ → A) (i n x : ℕ) → f i ≡ g i
    → ((y : ℕ) → y < n → f (i + 1 + y) ≡ g (i + 1 + y)) → x < suc n → f (i + x) ≡ g (i + x)
further_on f g i n zero h r l = let e : i + 0 ≡ i = omega arith in rw e h
further_on f g i n (suc x) h r l =
    let e : i + suc x ≡ i + 1 + x = omega arith in rw e (r x (omega (arith, l)))

-- the lines of packets: rows that are made of as many numbers are equal number by number
same_map : {A : Type 0} (row : A → Row) (f g : ℕ → A) (i n m : ℕ)
    → map row (map f (range_with_len i n)) ≡ map row (map g (range_with_len i m))
    → (n ≡ m) × ((x : ℕ) → x < n → row (f (i + x)) ≡ row (g (i + x)))
same_map row f g i zero zero e = (refl, λ x l. absurd (omega (arith, l)))
same_map row f g i zero (suc m) e = absurd (cc)
same_map row f g i (suc n) zero e = absurd (cc)
same_map row f g i (suc n) (suc m) e =
    let rest = same_map row f g (i + 1) n m (ap others e) in (
      ap suc rest.0,
      λ x l. further_on (λ j. row (f j)) (λ j. row (g j)) i n x
          (ap (first (row (f i))) e) rest.1 l,
    )

-- The lines of replies: a row shows its number.
abbrev shown : Row → List ℕ
shown r = field 0 (fields r)

abbrev row_at : (ℕ → Option ReplyLine) → ℕ → Option Row
row_at f x = option_map reply_row (f x)

abbrev Shows : (ℕ → Option ReplyLine) → Type 0
Shows f = (x : ℕ) (b : Row) → row_at f x ≡ Some b → shown b ≡ decimal x

abbrev rows_from : (ℕ → Option ReplyLine) → ℕ → ℕ → List Row
rows_from f i n = reply_rows (map f (range_with_len i n))

-- where the first row comes from
first_case : (f : ℕ → Option ReplyLine) (i n : ℕ) (b : Row) (t : List Row)
    → (rows_from f (i + 1) n ≡ b ∷ t → (j : ℕ) × (j < n) × (row_at f (i + 1 + j) ≡ Some b))
    → (o : Option Row) → row_at f i ≡ o → cons_option o (rows_from f (i + 1) n) ≡ b ∷ t → (j : ℕ)
    × (j < suc n) × (row_at f (i + j) ≡ Some b)
first_case f i n b t ih None h e =
    let w = ih e in
    let p : i + suc w.0 ≡ i + 1 + w.0 = omega arith in
    (suc w.0, omega (arith, w.1), ap (row_at f) p ∙ w.2)
first_case f i n b t ih (Some c) h e =
    let p : i + 0 ≡ i = omega arith in
    (0, omega arith, ap (row_at f) p ∙ h ∙ ap (λ x. Some x) (ap (first c) e))

-- it is of one of the numbers
first_in : (f : ℕ → Option ReplyLine) (i n : ℕ) (b : Row) (t : List Row) → rows_from f i n ≡ b ∷ t
    → (j : ℕ) × (j < n) × (row_at f (i + j) ≡ Some b)
first_in f i zero b t e = absurd (cc)
first_in f i (suc n) b t e = first_case f i n b t (first_in f (i + 1) n b t) (row_at f i) refl e

-- one row shows one number
clash : (i j : ℕ) (xs : List ℕ) → i < 2 ^ 32 → j < 2 ^ 32 → i < j → xs ≡ decimal i → xs ≡ decimal j
    → ⊥
clash i j xs a b l e f = let g : i ≡ j = number-same i j a b (sym e ∙ f) in omega (arith, l, g)

-- both have a row of the first number, or neither has: else the other's first row would show a
-- later number
same_case : (f g : ℕ → Option ReplyLine) → Shows f → Shows g → (i n : ℕ) → i + suc n ≤ 262144
    → (rows_from f (i + 1) n ≡ rows_from g (i + 1) n → (x : ℕ) → x < n
    → row_at f (i + 1 + x) ≡ row_at g (i + 1 + x))
    → (o r : Option Row) → row_at f i ≡ o → row_at g i ≡ r → cons_option o
    (rows_from f (i + 1) n) ≡ cons_option r (rows_from g (i + 1) n)
    → (x : ℕ) → x < suc n → row_at f (i + x) ≡ row_at g (i + x)
same_case f g p q i n s ih None None a b e x l = further_on (row_at f) (row_at g) i n x (a ∙ sym b)
    (ih e) l
same_case f g p q i n s ih (Some c) (Some d) a b e x l = further_on (row_at f) (row_at g) i n x
    (a ∙ ap (λ y. Some y) (ap (first c) e) ∙ sym b) (ih (ap others e)) l
same_case f g p q i n s ih None (Some d) a b e x l =
    let w = first_in f (i + 1) n d (rows_from g (i + 1) n) e in
    absurd (clash i (i + 1 + w.0) (shown d) (omega (arith, s)) (omega (arith, s, w.1)) (omega arith)
    (q i d b) (p (i + 1 + w.0) d w.2))
same_case f g p q i n s ih (Some c) None a b e x l =
    let w = first_in g (i + 1) n c (rows_from f (i + 1) n) (sym e) in
    absurd (clash i (i + 1 + w.0) (shown c) (omega (arith, s)) (omega (arith, s, w.1)) (omega arith)
    (p i c a) (q (i + 1 + w.0) c w.2))

-- rows that show their numbers are equal number by number
same_replies : (f g : ℕ → Option ReplyLine) → Shows f → Shows g → (i n : ℕ) → i + n ≤ 262144
    → rows_from f i n ≡ rows_from g i n
    → (x : ℕ) → x < n → row_at f (i + x) ≡ row_at g (i + x)
same_replies f g p q i zero s e x l = absurd (omega (arith, l))
same_replies f g p q i (suc n) s e x l = same_case f g p q i n s (same_replies f g p q (i + 1) n
    (omega (arith, s))) (row_at f i) (row_at g i) refl refl e x l

abbrev row_or : Row → Option Row → Row
row_or d None = d
row_or d (Some r) = r

-- the row of a reply shows the number of its packet
shown_by : (packets : List Packet) (apps : ℕ) (h : History) (x : ℕ) (b : Row) (o : Option Sent)
    → option_map reply_row (option_map (line_of_sent packets apps h x) o) ≡ Some b
    → shown b ≡ decimal x
shown_by packets apps h x b None e = absurd (cc)
shown_by packets apps h x b (Some s) e = sym (ap (λ o. shown (row_or (Tap 0 []) o)) e)

shows_number : (packets : List Packet) (apps : ℕ) (h : History) → Shows (reply_line packets apps h)
shows_number packets apps h x b e = shown_by packets apps h x b (first_reply_to h x) e

-- equal rows are of lines that show the same
reply_of : (packets : List Packet) (apps : ℕ) (h k : History) (x : ℕ) (o p : Option Sent)
    → IfSome (option_map (line_of_sent packets apps h x) o) ReplyFits
    → IfSome (option_map (line_of_sent packets apps k x) p) ReplyFits
    → option_map reply_row (option_map (line_of_sent packets apps h x) o) ≡ option_map reply_row
    (option_map (line_of_sent packets apps k x) p)
    → SameReply (option_map (line_of_sent packets apps h x) o)
    (option_map (line_of_sent packets apps k x) p)
reply_of packets apps h k x None None a b e = refl
reply_of packets apps h k x None (Some t) a b e = absurd (cc)
reply_of packets apps h k x (Some s) None a b e = absurd (cc)
reply_of packets apps h k x (Some s) (Some t) a b e =
    ap (λ r. Some r) (reply-same (line_of_sent packets apps h x s)
    (line_of_sent packets apps k x t) a b refl refl refl
    (ap (λ o. fields (row_or (Tap 0 []) o)) e))

-- Numbered rows, each of which shows a value.
same_numbered : {A C : Type 0} (P : A → Type 0) (v : A → C) (f g : ℕ → A → Row)
    → ((i : ℕ) (a b : A) → P a → P b → f i a ≡ g i b → v a ≡ v b)
    → (i : ℕ) (xs ys : List A) → All P xs → All P ys → numbered f i xs ≡ numbered g i ys
    → map v xs ≡ map v ys
same_numbered P v f g h i [] [] a b e = refl
same_numbered P v f g h i [] (y ∷ ys) a b e = absurd (cc)
same_numbered P v f g h i (x ∷ xs) [] a b e = absurd (cc)
same_numbered P v f g h i (x ∷ xs) (y ∷ ys) a b e =
    let p : v x ≡ v y = h i x y (All-head P x xs a) (All-head P y ys b) (ap (first (f i x)) e) in
    let rest = same_numbered P v f g h (suc i) xs ys (All-tail P x xs a) (All-tail P y ys b)
    (ap others e) in
    λ j. p j ∷ rest j

map_same : {A : Type 0} (xs : List A) → map (λ a. a) xs ≡ xs
map_same [] = refl
map_same (x ∷ xs) = ap (λ l. x ∷ l) (map_same xs)

-- the same, where the value is the thing itself
same_values : {A : Type 0} (P : A → Type 0) (f g : ℕ → A → Row) → ((i : ℕ) (a b : A) → P a → P b
    → f i a ≡ g i b → a ≡ b)
    → (xs ys : List A) → All P xs → All P ys → numbered f 0 xs ≡ numbered g 0 ys → xs ≡ ys
same_values P f g h xs ys a b e = sym (map_same xs) ∙ same_numbered P (λ a. a) f g h 0 xs ys a b e
    ∙ map_same ys

-- The sums of a lane are at the same fields of both kinds of row.
same_sums : (r s : List (List ℕ)) (l m : LaneList) → LaneFits l → LaneFits m
    → field 4 r ≡ decimal l.pulled → field 6 r ≡ decimal l.delivered → field 8 r ≡ decimal l.retired
    → field 4 s ≡ decimal m.pulled → field 6 s ≡ decimal m.delivered → field 8 s ≡ decimal m.retired
    → r ≡ s → sums_of l ≡ sums_of m
same_sums r s l m a b p q t u v w e =
    let x : l.pulled ≡ m.pulled = number-same l.pulled m.pulled a.pulled b.pulled
    (sym p ∙ ap (field 4) e ∙ u) in
    let y : l.delivered ≡ m.delivered = number-same l.delivered m.delivered a.delivered b.delivered
    (sym q ∙ ap (field 6) e ∙ v) in
    let z : l.retired ≡ m.retired = number-same l.retired m.retired a.retired b.retired
    (sym t ∙ ap (field 8) e ∙ w) in
    λ i. record { pulled = x i; delivered = y i; retired = z i }

-- The writes.
same_write : (a : ℕ) (v w : SockWrite) → WriteFits v → WriteFits w → write_row a v ≡ write_row a w
    → v ≡ w
same_write a v w f g e =
    let x : v.entry ≡ w.entry = number-same v.entry w.entry f.entry g.entry
    (ap (λ r. field 3 (fields r)) e) in
    let y : v.cpu ≡ w.cpu = byte-same v.cpu w.cpu f.cpu g.cpu (ap (λ r. field 5 (fields r)) e) in
    λ i. record { entry = x i; cpu = y i }

same_list : (a : ℕ) (vs ws : List SockWrite) → All WriteFits vs → All WriteFits ws
    → map (write_row a) vs ≡ map (write_row a) ws → vs ≡ ws
same_list a [] [] f g e = refl
same_list a [] (w ∷ ws) f g e = absurd (cc)
same_list a (v ∷ vs) [] f g e = absurd (cc)
same_list a (v ∷ vs) (w ∷ ws) f g e =
    let x : v ≡ w = same_write a v w (All-head WriteFits v vs f) (All-head WriteFits w ws g)
    (ap (first (Tap 0 [])) e) in
    let rest = same_list a vs ws (All-tail WriteFits v vs f) (All-tail WriteFits w ws g)
    (ap others e) in
    λ i. x i ∷ rest i

-- the row is of this application
abbrev Of : ℕ → Row → Type 0
Of a r = field 1 (fields r) ≡ decimal a

-- no row of a later application is
later : (a b : ℕ) (writes : List (List SockWrite)) → a < b → b + length writes ≤ 2 ^ 64
    → Each (λ r. Of a r → ⊥) (write_rows b writes)
later a b [] l s = tt
later a b (ws ∷ rest) l s =
    Each-append (λ r. Of a r → ⊥) (map (write_row b) ws) (write_rows (suc b) rest)
    (Each-map (λ r. Of a r → ⊥) (write_row b) ws (λ v e. let f : b ≡ a = decimal_injective b a
    (omega (arith, s)) (omega (arith, s, l)) e in omega (arith, f, l)))
    (later a (suc b) rest (omega (arith, l)) (omega (arith, s)))

same_writes : (a : ℕ) (xs ys : List (List SockWrite)) → length xs ≡ length ys
    → a + length xs ≤ 2 ^ 64 → All (All WriteFits) xs → All (All WriteFits) ys
    → write_rows a xs ≡ write_rows a ys → xs ≡ ys
same_writes a [] [] l s f g e = refl
same_writes a [] (y ∷ ys) l s f g e = absurd (omega (arith, l))
same_writes a (x ∷ xs) [] l s f g e = absurd (omega (arith, l))
same_writes a (x ∷ xs) (y ∷ ys) l s f g e =
    let long : length xs ≡ length ys = omega (arith, l) in
    let both = split (Of a) (map (write_row a) x) (map (write_row a) y) (write_rows (suc a) xs)
    (write_rows (suc a) ys)
    (Each-map (Of a) (write_row a) x (λ w. refl)) (Each-map (Of a) (write_row a) y (λ w. refl))
    (later a (suc a) xs (omega arith) (omega (arith, s))) (later a (suc a) ys (omega arith)
    (omega (arith, s, long))) e in
    let h = same_list a x y (All-head (All WriteFits) x xs f)
    (All-head (All WriteFits) y ys g) both.0 in
    let rest = same_writes (suc a) xs ys long (omega (arith, s)) (All-tail (All WriteFits) x xs f)
    (All-tail (All WriteFits) y ys g) both.1 in
    λ i. h i ∷ rest i

same_cut : (o p : Option ℕ) → FitsIn 32 o → FitsIn 32 p → cut_fields o ≡ cut_fields p → o ≡ p
same_cut None None a b e = refl
same_cut None (Some n) a b e = absurd (cc)
same_cut (Some m) None a b e = absurd (cc)
same_cut (Some m) (Some n) a b e = ap (λ k. Some k) (number-same m n a b (ap (field 1) e))

-- The commands.
record Told (c : Commanded) : Type 0 where
  fits : CommandedFits c
  text : has_text c.answer ≡ true

told : (cs : List Commanded) → All CommandedFits cs → All (λ c. has_text c.answer ≡ true) cs
    → All Told cs
told cs a b k d l = record { fits = a k d l; text = b k d l }

same_command : (i : ℕ) (a b : Commanded) → Told a → Told b → command_row i a ≡ command_row i b
    → a ≡ b
same_command i a b f g e =
    let both = command-same a.command b.command (answer_fields a.answer)
    (answer_fields b.answer) f.fits.command g.fits.command (ap (λ r. after 1 (fields r)) e) in
    let ans : a.answer ≡ b.answer =
    answer-same a.answer b.answer f.text g.text f.fits.answer g.fits.answer both.1 in
    λ j. record { command = both.0 j; answer = ans j }

-- The taps.
abbrev bytes_of : Row → List ℕ
bytes_of (Line w fs) = []
bytes_of (Tap k bytes) = bytes

same_taps : (texts more : List (List ℕ)) → tap_rows texts ≡ tap_rows more → texts ≡ more
same_taps texts more e = same_values (λ t. ⊤) Tap Tap (λ i a b p q f. ap bytes_of f) texts more
    (λ k d l. tt) (λ k d l. tt) e

-- The sections show lines, sums, writes and commands.
same_shown : HaveLinesThatFit → (packets : List Packet) (apps : ℕ) (start : ℕ) (h k : History)
    (texts more : List (List ℕ)) (bytes : List ℕ)
    → length packets ≤ 262144 → apps < 2 ^ 64 → IsReportOf packets apps start h texts bytes
    → IsReportOf packets apps start k more bytes
    → SameSections (lines_of packets apps h) (lines_of packets apps k) h k texts more
    → SameShown packets apps h k
same_shown fit packets apps start h k texts more bytes small few a b s =
    let n = length h.arrivals in
    let p = same_map packet_row (packet_line packets apps h) (packet_line packets apps k) 0 n
    (length k.arrivals) s.packets in
    let r : rows_from (reply_line packets apps h) 0 n ≡ rows_from (reply_line packets apps k) 0 n =
    s.replies ∙ ap (λ m. rows_from (reply_line packets apps k) 0 m) (sym p.0) in
    record {
      start = a.starts ∙ sym b.starts;
      total = number-same h.total k.total a.numbers.total b.numbers.total
          (ap (λ r. field 2 (fields r)) s.last);
      cut = same_cut h.cut k.cut a.numbers.cut b.numbers.cut (ap (λ r. after 3 (fields r)) s.last);
      arrived = p.0;
      packet = λ x l.
          let z : 0 + x ≡ x = omega arith in
          let e = subst (λ y. packet_row (packet_line packets apps h y) ≡ packet_row
          (packet_line packets apps k y)) z (p.1 x l) in
          packet-same (packet_line packets apps h x) (packet_line packets apps k x)
          (fit packets apps h small a.regular a.numbers x).0
          (fit packets apps k small b.regular b.numbers x).0 (ap fields e);
      reply = λ x l.
          let z : 0 + x ≡ x = omega arith in
          let all = same_replies (reply_line packets apps h) (reply_line packets apps k)
          (shows_number packets apps h) (shows_number packets apps k)
          0 n (omega (arith, small, a.regular.arrived.of_the_capture)) r x l in
          let e = subst (λ y. row_at (reply_line packets apps h) y ≡ row_at
          (reply_line packets apps k) y) z all in
          reply_of packets apps h k x (first_reply_to h x) (first_reply_to k x)
          (fit packets apps h small a.regular a.numbers x).1
          (fit packets apps k small b.regular b.numbers x).1 e;
      taken = same_values (λ n. n < 2 ^ 32)
          (λ q n. queue_row q (slice_index (lines_of packets apps h).arrived q) n)
          (λ q n. queue_row q (slice_index (lines_of packets apps k).arrived q) n)
          (λ i m n f g e. number-same m n f g (ap (λ r. field 4 (fields r)) e)) h.taken k.taken
          a.numbers.taken b.numbers.taken s.queues;
      lanes = same_numbered LaneFits sums_of cpu_row cpu_row
          (λ i l m f g e. same_sums (fields (cpu_row i l)) (fields (cpu_row i m)) l m f g refl refl
          refl refl refl refl (ap fields e))
          0 h.lanes k.lanes a.numbers.lanes b.numbers.lanes s.cpus;
      tx_lanes = same_numbered LaneFits sums_of tx_row tx_row
          (λ i l m f g e. same_sums (fields (tx_row i l)) (fields (tx_row i m)) l m f g refl refl
          refl refl refl refl (ap fields e))
          0 h.tx_lanes k.tx_lanes a.numbers.tx_lanes b.numbers.tx_lanes s.txs;
      writes = same_writes 0 h.writes k.writes (a.regular.matched.writes
          ∙ sym b.regular.matched.writes)
          (omega (arith, few, a.regular.matched.writes)) a.numbers.writes b.numbers.writes s.writes;
      commands = same_values Told command_row command_row same_command h.commands k.commands
          (told h.commands a.numbers.commands a.regular.answers)
          (told k.commands b.numbers.commands b.regular.answers) s.commands;
    }

-- One report has one history.
pub one_history : IsFoundAgain → HaveLinesThatFit → HasOneHistory
one_history found fit packets apps start h k texts more bytes small few a b =
    let one = lines_of packets apps h in
    let two = lines_of packets apps k in
    let rows : rows_of one h texts ≡ rows_of two k more =
    same_rows (rows_of one h texts) (rows_of two k more) (has_rows one h texts a.taps)
    (has_rows two k more b.taps) (a.text ∙ sym b.text) in
    let s = same_sections one two h k texts more rows in (
      found packets apps h k small a.regular a.queued b.regular b.queued
          (same_shown fit packets apps start h k texts more bytes small few a b s),
      same_taps texts more s.taps,
    )
