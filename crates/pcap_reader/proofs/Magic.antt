-- The magic number as bytes and as a number.
use Rattle.std.proofs.Common.{◌≡◌, ◌≤◌, ◌<◌, ℕ, Bool, true, false, List, [], ◌∷◌, length, take, All}
use Rattle.std.proofs.Common.{sym, ap, ◌∙◌, arith}
use Rattle.byteorder.specs.Endian.{big_number, little_number}
use Rattle.byteorder.specs.Numbers.{big_from-take, little_from-take}
use Rattle.pcap_reader.specs.Numbers.{number_of, magic_of, HasMagic}
use Rattle.pcap_reader.specs.Laws.{MagicIsRead}

number_is_magic : (big nano : Bool) (bytes : List ℕ) → HasMagic big nano bytes
    → number_of big 4 bytes ≡ magic_of nano
number_is_magic false false bytes h = sym (little_from-take 0 4 4 bytes (omega arith))
    ∙ ap (little_number 4) h
number_is_magic false true bytes h = sym (little_from-take 0 4 4 bytes (omega arith))
    ∙ ap (little_number 4) h
number_is_magic true false bytes h = sym (big_from-take 0 4 4 bytes (omega arith))
    ∙ ap (big_number 4) h
number_is_magic true true bytes h = sym (big_from-take 0 4 4 bytes (omega arith))
    ∙ ap (big_number 4) h

-- four bytes by their values
four_are : (a b d e x y z w : ℕ) (rest : List ℕ) → a ≡ x → b ≡ y → d ≡ z → e ≡ w
    → take 4 (a ∷ b ∷ d ∷ e ∷ rest) ≡ x ∷ y ∷ z ∷ w ∷ []
four_are a b d e x y z w rest p q r s = cc

four_bytes : (big nano : Bool) (a b d e : ℕ) (rest : List ℕ) → a < 256 → b < 256 → d < 256 → e < 256
    → number_of big 4 (a ∷ b ∷ d ∷ e ∷ rest) ≡ magic_of nano → HasMagic big nano (a ∷ b ∷ d ∷ e
    ∷ rest)
four_bytes false false a b d e rest ha hb hd he h = four_are a b d e 0xd4 0xc3 0xb2 0xa1 rest
    (omega arith) (omega arith) (omega arith) (omega arith)
four_bytes false true a b d e rest ha hb hd he h = four_are a b d e 0x4d 0x3c 0xb2 0xa1 rest
    (omega arith) (omega arith) (omega arith) (omega arith)
four_bytes true false a b d e rest ha hb hd he h = four_are a b d e 0xa1 0xb2 0xc3 0xd4 rest
    (omega arith) (omega arith) (omega arith) (omega arith)
four_bytes true true a b d e rest ha hb hd he h = four_are a b d e 0xa1 0xb2 0x3c 0x4d rest
    (omega arith) (omega arith) (omega arith) (omega arith)

magic_is_number : (big nano : Bool) (bytes : List ℕ) → 4 ≤ length bytes → All (λ b. b < 256) bytes
    → number_of big 4 bytes ≡ magic_of nano → HasMagic big nano bytes
magic_is_number big nano [] whole small h = absurd (omega arith)
magic_is_number big nano (a ∷ []) whole small h = absurd (omega arith)
magic_is_number big nano (a ∷ b ∷ []) whole small h = absurd (omega arith)
magic_is_number big nano (a ∷ b ∷ d ∷ []) whole small h = absurd (omega arith)
magic_is_number big nano (a ∷ b ∷ d ∷ e ∷ rest) whole small h =
    four_bytes big nano a b d e rest (small 0 0 (omega arith)) (small 1 0 (omega arith))
    (small 2 0 (omega arith)) (small 3 0 (omega arith)) h

pub magic_is_read : MagicIsRead
magic_is_read bytes big nano whole small =
    (number_is_magic big nano bytes, magic_is_number big nano bytes whole small)
