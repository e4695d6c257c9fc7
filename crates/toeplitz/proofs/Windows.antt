-- The windows of the key, cut out of 40 of its bits, and the word of a byte bit by bit.
use Rattle.std.proofs.Common.{◌≡◌, ◌≢◌, ◌<◌, ℕ, ◌+◌, ◌-◌, ◌*◌, ◌/◌, ◌%◌, ◌^◌, bit_and, bit_xor, sym}
use Rattle.std.proofs.Common.{refl, ◌∙◌, arith, add-one}
use Rattle.std.specs.Int.{bit_at}
use Rattle.std.proofs.lemmas.Nat.{field_of, shr-shr}
use Rattle.std.proofs.lemmas.Nat.Bits.{shr_and_one}
use Rattle.std.proofs.lemmas.Bool.Decides.{nat_tests}
use Rattle.std.proofs.Math.Pow.{mod-mod-pow}
use Rattle.toeplitz.specs.Toeplitz.{key_window}
use Rattle.toeplitz.specs.Tables.{xor_of_byte}

-- the lowest 32 of the bits from i on, of m low bits that hold them all
middle_of : (n m k i : ℕ) → m ≡ (k + 32) + i → n % 2 ^ m / 2 ^ i % 2 ^ 32 ≡ n / 2 ^ i % 2 ^ 32
middle_of n m k i e =
    let cut : n % 2 ^ m / 2 ^ i ≡ n / 2 ^ i % 2 ^ (k + 32) = rw e (field_of n (k + 32) i) in
    rw cut (mod-mod-pow (n / 2 ^ i) k 32)

pub window_is : (key place k : ℕ) → place < 36 → k < 8
    → key / 2 ^ (8 * (35 - place)) % 2 ^ 40 / 2 ^ (8 - k) % 2 ^ 32 ≡ key_window key (8 * place + k)
window_is key place k within small =
    let sums : 40 ≡ (k + 32) + (8 - k) = omega arith in
    let shift : 8 * (35 - place) + (8 - k) ≡ 288 - (8 * place + k) = omega arith in
    middle_of (key / 2 ^ (8 * (35 - place))) 40 k (8 - k) sums ∙ rw (
      shr-shr key (8 * (35 - place))
          (8 - k),
      shift,
    ) refl

-- one bit more of the byte, that is 1 or not
pub word_of_one : (key place byte k word : ℕ) → bit_and (byte / 2 ^ (7 - k)) 1 ≡ 1
    → word ≡ key_window key (8 * place + k)
    → bit_xor (xor_of_byte key place byte k) word ≡ xor_of_byte
    key place byte (k + 1)
unfolding xor_of_byte
word_of_one key place byte k word one e =
    let bit : bit_at byte (7 - k) ≡ 1 = sym (shr_and_one byte (7 - k)) ∙ one in
    rw (e, add-one, bit) refl

pub word_of_other : (key place byte k : ℕ) → bit_and (byte / 2 ^ (7 - k)) 1 ≢ 1
    → xor_of_byte key place byte k ≡ xor_of_byte key place byte (k + 1)
unfolding xor_of_byte
word_of_other key place byte k other =
    let bit : bit_at byte (7 - k) ≢ 1 = λ e. other (shr_and_one byte (7 - k) ∙ e) in
    rw add-one (grind (arith, nat_tests))
