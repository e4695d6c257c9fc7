-- The hash byte by byte.
use Rattle.std.proofs.Common.{◌≡◌, ◌≤◌, ℕ, zero, suc, ◌+◌, ◌-◌, ◌*◌, ◌/◌, ◌%◌, List, slice_index}
use Rattle.std.proofs.Common.{bit_xor, Bool, true, false, if◌then◌else◌, ◌==◌, sym, refl, arith}
use Rattle.std.proofs.Common.{add-one}
use Rattle.std.specs.Int.{bit_at}
use Rattle.std.specs.Int.Bits.{xor_assoc, xor_zero_r, xor_zero_l}
use Rattle.std.proofs.Common.{◌<◌, [], ◌∷◌, ◌++◌, length, take, ap}
use Rattle.std.proofs.Common.{◌∙◌}
use Rattle.std.proofs.lemmas.List.{take_more, length-take-le}
use Rattle.std.proofs.Math.Seq.{take-length}
use Rattle.toeplitz.specs.Toeplitz.{key_window, xor_of_bits, hash_of}
use Rattle.toeplitz.specs.Tables.{xor_of_byte, xor_of_bytes, word_of}

xor_in_either : (b : Bool) (x y w : ℕ)
    → (if b then bit_xor (bit_xor x y) w else bit_xor x y) ≡ bit_xor x
    (if b then bit_xor y w else y)
xor_in_either true x y w = xor_assoc x y w
xor_in_either false x y w = refl

-- so many bits more, all of one byte
xor_of_bits-add : (key : ℕ) (input : List ℕ) (place k : ℕ) → k ≤ 8
    → xor_of_bits key input (8 * place + k)
    ≡ bit_xor (xor_of_bits key input (8 * place))
    (xor_of_byte key place (slice_index input place) k)
unfolding xor_of_bits xor_of_byte
xor_of_bits-add key input place zero h =
    let e : 8 * place + 0 ≡ 8 * place = omega arith in
    rw e (sym (xor_zero_r (xor_of_bits key input (8 * place))))
xor_of_bits-add key input place (suc k) h =
    let more : 8 * place + suc k ≡ suc (8 * place + k) = omega arith in
    let byte : (8 * place + k) / 8 ≡ place = omega (arith, h) in
    let bit : (8 * place + k) % 8 ≡ k = omega (arith, h) in
    let before : xor_of_bits key input (8 * place + k)
    ≡ bit_xor (xor_of_bits key input (8 * place))
    (xor_of_byte key place (slice_index input place) k) =
    xor_of_bits-add key input place k (omega (arith, h)) in
    rw (more, byte, bit, before) (xor_in_either (bit_at (slice_index input place) (7 - k) == 1)
    (xor_of_bits key input (8 * place)) (xor_of_byte key place (slice_index input place) k)
    (key_window key (8 * place + k)))

-- one byte more
pub xor_of_bits-more : (key : ℕ) (input : List ℕ) (place : ℕ)
    → bit_xor (xor_of_bits key input (8 * place)) (word_of key place (slice_index input place))
    ≡ xor_of_bits key input (8 * (place + 1))
xor_of_bits-more key input place =
    let e : 8 * (place + 1) ≡ 8 * place + 8 = omega arith in
    rw e (sym (xor_of_bits-add key input place 8 (omega arith)))

-- what the first bytes add, and what those behind them add
pub xor_of_bytes-append : (key place : ℕ) (xs ys : List ℕ)
    → xor_of_bytes key place (xs ++ ys)
    ≡ bit_xor (xor_of_bytes key place xs) (xor_of_bytes key (place + length xs) ys)
unfolding xor_of_bytes
xor_of_bytes-append key place [] ys =
    let e : place + 0 ≡ place = omega arith in
    rw e (sym (xor_zero_l (xor_of_bytes key place ys)))
xor_of_bytes-append key place (x ∷ xs) ys =
    let e : place + suc (length xs) ≡ suc place + length xs = omega arith in
    rw (e, xor_of_bytes-append key (suc place) xs ys) (sym (xor_assoc (word_of key place x)
    (xor_of_bytes key (suc place) xs) (xor_of_bytes key (suc place + length xs) ys)))

-- one byte more
pub xor_of_bytes-more : (key place at : ℕ) (bytes : List ℕ) → at < length bytes
    → bit_xor (xor_of_bytes key place (take at bytes)) (word_of key (place + at)
    (slice_index bytes at))
    ≡ xor_of_bytes key place (take (at + 1) bytes)
unfolding xor_of_bytes
xor_of_bytes-more key place at bytes within =
    let more = take_more bytes at 0 within in
    let size : length (take at bytes) ≡ at = length-take-le at bytes (omega (arith, within)) in
    let one = xor_of_bytes-append key place (take at bytes) (slice_index bytes at ∷ []) in
    let word = xor_zero_r (word_of key (place + at) (slice_index bytes at)) in
    sym (ap (xor_of_bytes key place) more ∙ rw (size, word) at one)

by_byte : (key n : ℕ) (input : List ℕ) → n < length input
    → bit_xor (xor_of_bytes key 0 (take n input)) (word_of key n (slice_index input n))
    ≡ xor_of_bytes key 0 (take (n + 1) input)
by_byte key n input within =
    let e : 0 + n ≡ n = omega arith in
    rw e at (xor_of_bytes-more key 0 n input within)

-- the first bytes of an input, by their bits and one by one
by_bytes : (key : ℕ) (input : List ℕ) (n : ℕ) → n ≤ length input
    → xor_of_bits key input (8 * n) ≡ xor_of_bytes key 0 (take n input)
unfolding xor_of_bits xor_of_bytes
by_bytes key input zero h = refl
by_bytes key input (suc n) h =
    let before = by_bytes key input n (omega (arith, h)) in
    rw add-one at (sym (xor_of_bits-more key input n)
    ∙ ap (λ x. bit_xor x (word_of key n (slice_index input n))) before
    ∙ by_byte key n input (omega (arith, h)))

-- the hash of an input is what its bytes add
pub hash_of-bytes : (key : ℕ) (input : List ℕ) → hash_of key input ≡ xor_of_bytes key 0 input
hash_of-bytes key input =
    by_bytes key input (length input) (omega arith) ∙ ap (xor_of_bytes key 0) (take-length input)

-- what two parts of an input add, one behind the other
pub xor_of_parts : (key place n a b : ℕ) (xs ys : List ℕ) → n ≡ place + length xs
    → a ≡ xor_of_bytes key place xs → b ≡ xor_of_bytes key n ys
    → bit_xor a b ≡ xor_of_bytes key place (xs ++ ys)
xor_of_parts key place n a b xs ys size first second =
    rw (first, second, size) (sym (xor_of_bytes-append key place xs ys))
