-- The next section of a report begins with another word.
use Rattle.std.proofs.Common.{ℕ, suc, ◌≡◌, ◌≤◌, ◌<◌, ◌++◌, List, [], ◌∷◌}
use Rattle.std.proofs.Common.{length, refl, ap, arith}
use Rattle.std.proofs.lemmas.List.{length-append}
use Rattle.std.specs.Prelude.{codes, if◌then◌else◌}
use Rattle.std.specs.Str.{bytes_eq}
use Rattle.report.specs.Texts.{AreFields, AreRows, IsField, IsRow, Row, body, fields, further}
use Rattle.report.specs.Texts.{row_text, text_of, word}
use Rattle.report.specs.Texts.Row.{Line, Tap}
use Rattle.report.proofs.Cuts.{word-IsField}
use Rattle.report.proofs.Digits.{decimal-IsField}
use Rattle.report.proofs.SameSections.{Each}
use Rattle.report_reader.specs.Sections.{AreShown, IsOther}

-- the section that a row is of, by its first word
abbrev pub section : List ℕ → ℕ
section w =
    if bytes_eq w (codes "p") then 1 else if bytes_eq w (codes "r") then 2 else
    if bytes_eq w (codes "queue") then 3 else if bytes_eq w (codes "cpu") then 4 else
    if bytes_eq w (codes "tx") then 5 else if bytes_eq w (codes "w") then 6 else
    if bytes_eq w (codes "c") then 7 else if bytes_eq w (codes "tap") then 8 else 9

-- a row behind this section, that the reader can take
abbrev pub Behind : ℕ → Row → Type 0
Behind n r = (n < section (word r)) × (length (fields r) < 40)

word-field : (row : Row) → IsRow row → IsField (word row)
word-field (Line first rest) r = r.0
word-field (Tap number bytes) r = word-IsField (codes "tap") refl

further-fields : (row : Row) → IsRow row → AreFields (fields row)
further-fields (Line first rest) r = r.1
further-fields (Tap number bytes) r = (
  decimal-IsField number,
  (word-IsField (codes "bytes") refl, (decimal-IsField (length bytes), tt)),
)

pub other-row : (n : ℕ) (w : List ℕ) (row : Row) (more : List Row) → section w ≡ n → Behind n row
    → IsRow row → IsOther w (row ∷ more)
other-row n w row more e b r = record {
  next = row;
  more = more;
  is = refl;
  other = λ s. let k : section (word row) ≡ section w = ap section s in omega (arith, k, e, b.0);
  is_field = word-field row r;
  are_fields = further-fields row r;
  few = b.1;
}

-- a section before rows that begin with another word
pub append-other : (n : ℕ) (w : List ℕ) (xs ys : List Row) → section w ≡ n → Each (Behind n) xs
    → AreRows xs → IsOther w ys → IsOther w (xs ++ ys)
append-other n w [] ys e b r o = o
append-other n w (q ∷ xs) ys e b r o = other-row n w q (xs ++ ys) e b.0 r.0

further-some : (fs : List (List ℕ)) → 0 < length (further fs)
further-some [] = omega arith
further-some (f ∷ fs) = omega arith

row-some : (r : Row) → 0 < length (row_text r)
row-some r =
    let f = further-some (fields r) in
    let a = length-append (word r) (further (fields r)) in
    let b = length-append (word r ++ further (fields r)) (body r) in
    omega (arith, f, a, b)

-- no section has more rows than the text has bytes
pub rows-short : (rows : List Row) → length rows ≤ length (text_of rows)
rows-short [] = omega arith
rows-short (r ∷ rows) =
    let a = row-some r in
    let b = length-append (row_text r) (text_of rows) in
    let i = rows-short rows in omega (arith, a, b, i)

pub shown-as_many : {T : Type 0} (first : List ℕ) (least : ℕ) (shows : T → List (List ℕ) → Type 0)
    (items : List T) (rows : List Row)
    → AreShown first least shows items rows → length items ≡ length rows
shown-as_many first least shows [] [] s = refl
shown-as_many first least shows [] (r ∷ rows) s = absurd s
shown-as_many first least shows (x ∷ items) [] s = absurd s
shown-as_many first least shows (x ∷ items) (r ∷ rows) s =
    ap suc (shown-as_many first least shows items rows s.1)
