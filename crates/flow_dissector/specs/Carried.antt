-- What a header hands to the next layer.
use Rattle.std.specs.Prelude.{ℕ, List, Option, Some}

-- the bytes after a header, and the number by which the header says what they are
pub record Carried : Type 0 where
  pub kind : ℕ
  pub bytes : List ℕ

-- a header carries these bytes, of this kind
abbrev pub carries : ℕ → List ℕ → Option Carried
carries kind bytes = Some (record { kind = kind; bytes = bytes })
