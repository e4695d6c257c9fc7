-- One step over the extensions.
use Rattle.std.proofs.Common.{◌≡◌, ◌≤◌, ◌<◌, ◌-◌, ℕ, zero, suc, true, false, List, length, drop}
use Rattle.std.proofs.Common.{slice_index, None, arith}
use Rattle.std.proofs.lemmas.Bool.{lt-ltb, le-ltb}
use Rattle.flow_dissector.specs.Carried.{carries}
use Rattle.flow_dissector.specs.Ipv6.{is_extension, extension_len, after_extensions}

-- what is no extension is carried
pub after_extensions-none : (left next : ℕ) (bytes : List ℕ) → is_extension next ≡ false
    → after_extensions left next bytes ≡ carries next bytes
unfolding after_extensions
after_extensions-none zero next bytes other = rw other
after_extensions-none (suc left) next bytes other = rw other

-- one extension too many carries nothing
pub after_extensions-zero : (left next : ℕ) (bytes : List ℕ) → left ≤ 0 → is_extension next ≡ true
    → after_extensions left next bytes ≡ None
unfolding after_extensions
after_extensions-zero zero next bytes none walked = rw walked
after_extensions-zero (suc left) next bytes none walked = absurd (omega arith)

-- nor does one without its first two bytes
pub after_extensions-short : (left next : ℕ) (bytes : List ℕ) → is_extension next ≡ true
    → length bytes < 2 → after_extensions left next bytes ≡ None
unfolding after_extensions
after_extensions-short zero next bytes walked short = rw walked
after_extensions-short (suc left) next bytes walked short =
    rw (walked, lt-ltb (length bytes) 2 short)

-- nor one with fewer bytes than it says
pub after_extensions-cut : (left next : ℕ) (bytes : List ℕ) → is_extension next ≡ true
    → 2 ≤ length bytes
    → length bytes < extension_len bytes → after_extensions left next bytes ≡ None
unfolding after_extensions
after_extensions-cut zero next bytes walked begun cut = rw walked
after_extensions-cut (suc left) next bytes walked begun cut =
    rw (walked, le-ltb (length bytes) 2 begun, lt-ltb (length bytes) (extension_len bytes) cut)

-- a whole extension carries what the headers behind it carry
pub after_extensions-more : (left next : ℕ) (bytes : List ℕ) → 0 < left → is_extension next ≡ true
    → 2 ≤ length bytes → extension_len bytes ≤ length bytes
    → after_extensions left next bytes ≡ after_extensions (left - 1) (slice_index bytes 0)
    (drop (extension_len bytes) bytes)
unfolding after_extensions
after_extensions-more zero next bytes some walked begun whole = absurd (omega arith)
after_extensions-more (suc left) next bytes some walked begun whole =
    let one_less : suc left - 1 ≡ left = omega arith in
    rw (
      walked,
      le-ltb (length bytes) 2 begun,
      le-ltb (length bytes) (extension_len bytes) whole,
      one_less,
    )
