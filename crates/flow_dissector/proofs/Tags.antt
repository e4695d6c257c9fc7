-- One step over the tags.
use Rattle.std.proofs.Common.{◌≡◌, ◌≤◌, ◌<◌, ◌-◌, ℕ, zero, suc, true, false, List, length, drop}
use Rattle.std.proofs.Common.{None, refl, arith}
use Rattle.std.proofs.lemmas.Bool.{lt-ltb, le-ltb}
use Rattle.byteorder.specs.Endian.{big_number}
use Rattle.flow_dissector.specs.Carried.{carries}
use Rattle.flow_dissector.specs.Ethernet.{is_tag, after_tags}

-- what is no tag is carried
pub after_tags-no_tag : (left kind : ℕ) (bytes : List ℕ) → is_tag kind ≡ false
    → after_tags left kind bytes ≡ carries kind bytes
unfolding after_tags
after_tags-no_tag zero kind bytes other = refl
after_tags-no_tag (suc left) kind bytes other = rw other

-- no tag more is walked
pub after_tags-zero : (left kind : ℕ) (bytes : List ℕ) → left ≤ 0
    → after_tags left kind bytes ≡ carries kind bytes
unfolding after_tags
after_tags-zero zero kind bytes none = refl
after_tags-zero (suc left) kind bytes none = absurd (omega arith)

-- a tag that is cut carries nothing
pub after_tags-cut : (left kind : ℕ) (bytes : List ℕ) → 0 < left → is_tag kind ≡ true
    → length bytes < 4 → after_tags left kind bytes ≡ None
unfolding after_tags
after_tags-cut zero kind bytes some tag cut = absurd (omega arith)
after_tags-cut (suc left) kind bytes some tag cut = rw (tag, lt-ltb (length bytes) 4 cut)

-- a whole tag carries what the tags behind it carry
pub after_tags-more : (left kind : ℕ) (bytes : List ℕ) → 0 < left → is_tag kind ≡ true
    → 4 ≤ length bytes
    → after_tags left kind bytes ≡ after_tags (left - 1) (big_number 2 (drop 2 bytes))
    (drop 4 bytes)
unfolding after_tags
after_tags-more zero kind bytes some tag whole = absurd (omega arith)
after_tags-more (suc left) kind bytes some tag whole =
    let one_less : suc left - 1 ≡ left = omega arith in rw (
      tag,
      le-ltb (length bytes) 4 whole,
      one_less,
    )
