-- A text of rows: the fields of a row are separated by one space and end with a line feed; the row
-- of a tap is followed by the bytes of the tap's text.
use Rattle.std.specs.Prelude.{ℕ, ◌≢◌, ◌<◌, ◌^◌, List, [], ◌∷◌, ◌++◌, ⊤, codes, decimal, length}

-- a row: the first field of a line and its further fields, or the number of a tap and its text
pub data Row : Type 0 where
  Line : List ℕ → List (List ℕ) → Row
  Tap : ℕ → List ℕ → Row

-- the first field of a row
abbrev pub word : Row → List ℕ
word (Line first rest) = first
word (Tap number bytes) = codes "tap"

-- the further fields of a row: of a tap, its number and the number of bytes that follow
abbrev pub fields : Row → List (List ℕ)
fields (Line first rest) = rest
fields (Tap number bytes) = decimal number ∷ codes "bytes" ∷ decimal (length bytes) ∷ []

-- the bytes that follow the line of a row: of a tap, its text
abbrev pub body : Row → List ℕ
body (Line first rest) = []
body (Tap number bytes) = bytes

-- the text of further fields, each after a space, and the end of the line
abbrev pub further : List (List ℕ) → List ℕ
further [] = 10 ∷ []
further (f ∷ fs) = 32 ∷ (f ++ further fs)

-- the text of a row
abbrev pub row_text : Row → List ℕ
row_text r = word r ++ further (fields r) ++ body r

-- the text of some rows
abbrev pub text_of : List Row → List ℕ
text_of [] = []
text_of (r ∷ rows) = row_text r ++ text_of rows

-- a field: a text without a space and without a line feed
abbrev pub IsField : List ℕ → Type 0
IsField [] = ⊤
IsField (byte ∷ bytes) = (byte ≢ 32) × (byte ≢ 10) × IsField bytes

-- all these texts are fields
abbrev pub AreFields : List (List ℕ) → Type 0
AreFields [] = ⊤
AreFields (f ∷ fs) = IsField f × AreFields fs

-- A row is well formed: the fields of a line have no space and no line feed, a line does not begin
-- like the row of a tap, and the number and length of a tap have 64 bits.
abbrev pub IsRow : Row → Type 0
IsRow (Line first rest) = IsField first × AreFields rest × (first ≢ codes "tap")
IsRow (Tap number bytes) = (number < 2 ^ 64) × (length bytes < 2 ^ 64)

-- all these rows are well formed
abbrev pub AreRows : List Row → Type 0
AreRows [] = ⊤
AreRows (r ∷ rows) = IsRow r × AreRows rows
