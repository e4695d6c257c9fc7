-- The text of rows, one row after another.
use Rattle.std.proofs.Common.{◌≡◌, ℕ, suc, ◌+◌, ◌<◌, List, [], ◌∷◌, ◌++◌, Option, Some, None}
use Rattle.std.proofs.Common.{length, map, drop, get_or, refl, sym, ap, ◌∙◌, arith, append_assoc}
use Rattle.std.proofs.Common.{append-nil}
use Rattle.std.proofs.Math.Seq.{drop-cons}
use Rattle.std.proofs.lemmas.List.FromFn.{length-map-range_with_len}
use Rattle.history.specs.Lines.{LineLists}
use Rattle.history.specs.declared.history.History.{History}
use Rattle.history.specs.declared.reply_line.ReplyLine.{ReplyLine}
use Rattle.history.specs.declared.sock_write.SockWrite.{SockWrite}
use Rattle.report.specs.Lines.{end_row, write_row}
use Rattle.report.specs.Made.{AreLinesOf}
use Rattle.report.specs.Parts.{events_text, packets_text, sums_text}
use Rattle.report.specs.Pieces.{reply_text}
use Rattle.report.specs.Report.{command_rows, cpu_rows, first_row, numbered, packet_rows}
use Rattle.report.specs.Report.{queue_rows, reply_rows, rows_of, tap_rows, tx_rows, write_rows}
use Rattle.report.specs.Texts.{Row, row_text, text_of}

pub text_of-append : (xs ys : List Row) → text_of (xs ++ ys) ≡ text_of xs ++ text_of ys
text_of-append [] ys = refl
text_of-append (x ∷ xs) ys = ap (λ r. row_text x ++ r) (text_of-append xs ys)
    ∙ sym (append_assoc (row_text x) (text_of xs) (text_of ys))

next_item : {A : Type 0} (xs : List A) (n : ℕ) (a : A) → n < length xs → a ≡ get_or xs n a
    → drop n xs ≡ a ∷ drop (n + 1) xs
next_item xs n a below e =
    let next : suc n ≡ n + 1 = omega arith in
    drop-cons xs n a below ∙ ap (λ b. b ∷ drop (suc n) xs) (sym e) ∙ ap (λ m. a ∷ drop m xs) next

-- the row of the next item, and those behind it
pub numbered-next : {A : Type 0} (row : ℕ → A → Row) (n : ℕ) (xs : List A) (a : A) (t : List ℕ)
    → n < length xs → a ≡ get_or xs n a
    → t ≡ row_text (row n a) → text_of (numbered row n (drop n xs)) ≡ t
    ++ text_of (numbered row (n + 1) (drop (n + 1) xs))
numbered-next row n xs a t below e line =
    let next : suc n ≡ n + 1 = omega arith in
    ap (λ ys. text_of (numbered row n ys)) (next_item xs n a below e)
    ∙ ap (λ m. row_text (row n a) ++ text_of (numbered row m (drop (n + 1) xs))) next
    ∙ ap (λ s. s ++ text_of (numbered row (n + 1) (drop (n + 1) xs))) (sym line)

pub map-next : {A : Type 0} (row : A → Row) (n : ℕ) (xs : List A) (a : A) (t : List ℕ)
    → n < length xs → a ≡ get_or xs n a
    → t ≡ row_text (row a) → text_of (map row (drop n xs)) ≡ t
    ++ text_of (map row (drop (n + 1) xs))
map-next row n xs a t below e line =
    ap (λ ys. text_of (map row ys)) (next_item xs n a below e)
    ∙ ap (λ s. s ++ text_of (map row (drop (n + 1) xs))) (sym line)

reply_first : (a : Option ReplyLine) (xs : List (Option ReplyLine))
    → text_of (reply_rows (a ∷ xs)) ≡ reply_text a ++ text_of (reply_rows xs)
reply_first None xs = refl
reply_first (Some line) xs = refl

pub replies-next : (n : ℕ) (xs : List (Option ReplyLine)) (a : Option ReplyLine) → n < length xs
    → a ≡ get_or xs n a
    → text_of (reply_rows (drop n xs)) ≡ reply_text a ++ text_of (reply_rows (drop (n + 1) xs))
replies-next n xs a below e =
    ap (λ ys. text_of (reply_rows ys)) (next_item xs n a below e) ∙ reply_first a (drop (n + 1) xs)

pub writes-next : (n : ℕ) (xs : List (List SockWrite)) (a : List SockWrite) → n < length xs
    → a ≡ get_or xs n a
    → text_of (write_rows n (drop n xs)) ≡ text_of (map (write_row n) a)
    ++ text_of (write_rows (n + 1) (drop (n + 1) xs))
writes-next n xs a below e =
    let next : suc n ≡ n + 1 = omega arith in
    ap (λ ys. text_of (write_rows n ys)) (next_item xs n a below e)
    ∙ text_of-append (map (write_row n) a) (write_rows (suc n) (drop (n + 1) xs))
    ∙ ap (λ m. text_of (map (write_row n) a) ++ text_of (write_rows m (drop (n + 1) xs))) next

-- how many lines a history has
pub packets-made : (lines : LineLists) (h : History) → AreLinesOf lines h
    → length lines.packets ≡ length h.arrivals
packets-made lines h made = ap (λ l. length l.packets) made.are ∙ length-map-range_with_len _ 0
    (length h.arrivals)

pub replies-made : (lines : LineLists) (h : History) → AreLinesOf lines h
    → length lines.replies ≡ length h.arrivals
replies-made lines h made = ap (λ l. length l.replies) made.are ∙ length-map-range_with_len _ 0
    (length h.arrivals)

pub arrived-made : (lines : LineLists) (h : History) → AreLinesOf lines h
    → length lines.arrived ≡ length h.taken
arrived-made lines h made = ap (λ l. length l.arrived) made.are ∙ length-map-range_with_len _ 0
    (length h.taken)

-- the three parts of a report are its rows
pub rows-parts : (first last : Row) (ps rs qs cs ts ws ks xs : List Row)
    → text_of (first ∷ (ps ++ (rs ++ (qs ++ (cs ++ (ts ++ (ws ++ (ks ++ (xs ++ (last ∷ []))))))))))
    ≡ (row_text first ++ (text_of ps ++ text_of rs)) ++ ((text_of qs ++ (text_of cs ++ text_of ts))
    ++ (text_of ws ++ (text_of ks ++ (text_of xs ++ row_text last))))
rows-parts first last ps rs qs cs ts ws ks xs = simp (text_of-append, append_assoc, append-nil)

pub report-parts : (lines : LineLists) (h : History) (texts : List (List ℕ))
    → text_of (rows_of lines h texts) ≡ packets_text lines
    ++ (sums_text lines h ++ events_text h texts)
report-parts lines h texts =
    rows-parts first_row (end_row (length h.arrivals) h.total h.cut) (packet_rows lines.packets)
    (reply_rows lines.replies)
    (queue_rows lines.arrived h.taken) (cpu_rows h.lanes) (tx_rows h.tx_lanes)
    (write_rows 0 h.writes) (command_rows h.commands) (tap_rows texts)
