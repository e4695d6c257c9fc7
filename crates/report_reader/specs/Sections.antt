-- The sections of a report: rows of one kind, one after the other, each of which shows an item.
use Rattle.std.specs.Prelude.{ℕ, ◌≡◌, ◌≢◌, ◌≤◌, ◌<◌, ◌+◌, ◌*◌, ◌^◌, List, [], ◌∷◌, ◌++◌, ⊤}
use Rattle.std.specs.Prelude.{codes, drop, Option, Some, None, decimal, length}
use Rattle.history.specs.Ranges.{FitsIn}
use Rattle.report.specs.Lines.{end_row}
use Rattle.report.specs.Report.{numbered}
use Rattle.report_reader.specs.Seen.{field_at}
use Rattle.report.specs.Texts.{AreFields, IsField, Row, fields, row_text, text_of, word}
use Rattle.report.specs.Texts.Row.{Line, Tap}

-- a row with this first word and at least so many bytes shows an item
pub record IsShown {T : Type 0} (first : List ℕ) (least : ℕ) (shows : T → List (List ℕ) → Type 0)
    (item : T) (row : Row) : Type 0 where
  pub further : List (List ℕ)
  pub is : row ≡ Line first further
  pub is_field : IsField first
  pub are_fields : AreFields further
  pub few : length further < 40
  pub long : least ≤ length (row_text row)
  pub shown : shows item (first ∷ further)

-- the rows show these items, one each
abbrev pub AreShown : {T : Type 0} → List ℕ → ℕ → (T → List (List ℕ) → Type 0) → List T → List Row
    → Type 0
AreShown first least shows [] [] = ⊤
AreShown first least shows [] (row ∷ rows) = ⊥
AreShown first least shows (item ∷ items) [] = ⊥
AreShown first least shows (item ∷ items) (row ∷ rows) =
    IsShown first least shows item row × AreShown first least shows items rows

-- the next row begins with another word
pub record IsOther (first : List ℕ) (rows : List Row) : Type 0 where
  pub next : Row
  pub more : List Row
  pub is : rows ≡ next ∷ more
  pub other : word next ≢ first
  pub is_field : IsField (word next)
  pub are_fields : AreFields (fields next)
  pub few : length (fields next) < 40

-- Bytes from a place on are the text of a section with these items and of further rows; then what
-- was read is just these items, and from the next place on there is the text of the further rows.
abbrev pub Reads : {T : Type 0} → List ℕ → (least : ℕ) → (T → List (List ℕ) → Type 0) → List ℕ
    → (at most : ℕ) → List T → (next : ℕ) → Type 0
Reads {T} first least shows bytes at most found next =
    (items : List T) (rows rest : List Row) → AreShown first least shows items rows
    → length items ≤ most → IsOther first rest → drop at bytes ≡ text_of (rows ++ rest)
    → (found ≡ items) × (drop next bytes ≡ text_of rest)

-- what was read of a section from a place on, where all of it is within the bytes, and where the
-- next section begins
pub record IsRead {T : Type 0} (first : List ℕ) (least : ℕ) (shows : T → List (List ℕ) → Type 0)
    (bytes : List ℕ) (at most : ℕ) (found : List T) (next : ℕ) : Type 0 where
  pub within : next ≤ length bytes
  pub few : length found ≤ most
  pub fit : length found * least + at ≤ next
  pub reads : Reads first least shows bytes at most found next

-- the length of each text has 64 bits
abbrev pub HaveLengths : List (List ℕ) → Type 0
HaveLengths [] = ⊤
HaveLengths (text ∷ texts) = (length text < 2 ^ 64) × HaveLengths texts

-- The same of the rows of taps, which are numbered from some number on, and their texts.
abbrev pub ReadsTexts : List ℕ → ℕ → List (List ℕ) → ℕ → Type 0
ReadsTexts bytes at found next =
    (texts : List (List ℕ)) (i : ℕ) (rest : List Row) → HaveLengths texts
    → IsOther (codes "tap") rest → drop at bytes ≡ text_of (numbered Tap i texts ++ rest)
    → (found ≡ texts) × (drop next bytes ≡ text_of rest)

-- the fields of the last line show the length of a truncated last record
abbrev pub ShowsCut : List (List ℕ) → Option ℕ → Type 0
ShowsCut fs None = field_at fs 4 ≡ []
ShowsCut fs (Some bytes) =
    (field_at fs 4 ≡ codes "cut") × (field_at fs 5 ≡ decimal bytes) × (bytes < 2 ^ 32)

-- bytes from a place on are the last line of a report
pub record IsLast (bytes : List ℕ) (at arrived total : ℕ) (cut : Option ℕ) : Type 0 where
  pub total_fits : total < 2 ^ 32
  pub cut_fits : FitsIn 32 cut
  pub text : drop at bytes ≡ text_of (end_row arrived total cut ∷ [])
