-- The value of bytes by whether they are UTF-8.
use Rattle.std.proofs.Common.{◌≡◌, ℕ, Bool, true, false, cond, List, Option, Some, None, IsUtf8}
use Rattle.std.proofs.Common.{refl}
use Rattle.std.proofs.lemmas.Str.{IsUtf8-from_is_utf8, is_utf8-from_IsUtf8}
use Rattle.std.specs.Str.{is_utf8}
use Rattle.serde_json.specs.Data.{Data}

-- the value of a text
pub value_found : (bytes : List ℕ) (found : Option Data) (d : Data) → IsUtf8 bytes → found ≡ Some d
    → cond (is_utf8 bytes) found None ≡ Some d
value_found bytes found d text e = rw (is_utf8-from_IsUtf8 bytes text) e

none_by : (bytes : List ℕ) (found : Option Data) (b : Bool) → is_utf8 bytes ≡ b
    → (IsUtf8 bytes → found ≡ None) → cond b found None ≡ None
none_by bytes found true e h = h (IsUtf8-from_is_utf8 bytes e)
none_by bytes found false e h = refl

-- no value where the bytes are no text, or a text without one
pub value_none : (bytes : List ℕ) (found : Option Data) → (IsUtf8 bytes → found ≡ None)
    → cond (is_utf8 bytes) found None ≡ None
value_none bytes found h = none_by bytes found (is_utf8 bytes) refl h
