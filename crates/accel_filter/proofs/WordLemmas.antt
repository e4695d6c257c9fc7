-- The bits of a word that are left while its filters are gone through.
use Rattle.std.proofs.Common.{ℕ, ◌+◌, ◌-◌, ◌*◌, ◌^◌, ◌%◌, ◌<◌, ◌≤◌, ◌≡◌, Bool, true, false, List}
use Rattle.std.proofs.Common.{Option, None, length, ap, sym, ◌∙◌, arith, w64, inl, inr}
use Rattle.std.proofs.Common.{bit_and, cond}
use Rattle.std.specs.Prelude.{◌==◌, slice_index_or, slice_set}
use Rattle.std.specs.Int.{bit_at, bit_not, trailing_zeros}
use Rattle.std.specs.Option.{is_some}
use Rattle.std.specs.List.{All}
use Rattle.std.specs.Slice.Scan.{HoldsNowhere}
use Rattle.std.proofs.lemmas.Bool.{cases_eq, cases_lt}
use Rattle.std.proofs.lemmas.List.{get_or-set_other, get_or_past}
use Rattle.std.proofs.lemmas.Nat.{and_le_l}
use Rattle.std.proofs.lemmas.Nat.Bits.{bit_at-trailing_zeros, bit_at-zero, bit_at_clear_other}
use Rattle.std.proofs.lemmas.Nat.Bits.{bit_at_clear_same}
use Rattle.steer_base.specs.declared.filter.Filter.{Filter}
use Rattle.accel_filter.specs.Expiry.{IsExpiredTo, IsSeated, is_old, kept_of}
use Rattle.accel_filter.specs.Marks.{has_bit}
use Rattle.accel_filter.specs.Table.{has_filter}
use Rattle.accel_filter.proofs.ExpiryLemmas.{expired_next, expired_past, seated_after}

-- The bits of a word that are left from one on are the filters from a base on that are set.
pub record AreLeft (left base from : ℕ) (filters : List (Option Filter)) : Type 0 where
  pub few : from ≤ 64
  pub passed : (k : ℕ) → k < from → has_bit left k ≡ false
  pub coming : (k : ℕ) → from ≤ k → k < 64 → has_bit left k ≡ has_filter filters (base + k)

-- a filter that is set is in the table
is_within : (filters : List (Option Filter)) (i : ℕ) → has_filter filters i ≡ true
    → i < length filters
is_within filters i set = elim (cases_lt i (length filters)) [
  | inl lt ↦ lt
  | inr past ↦ absurd (
      let none : slice_index_or filters i None ≡ None = get_or_past filters i None past in
      let unset : has_filter filters i ≡ false =
      ap (λ (o : Option Filter). is_some o) none in cc)
]

cond_le : (b : Bool) → cond b 1 0 ≤ 1
cond_le true = omega arith
cond_le false = omega arith

module _ (left base from : ℕ) (filters : List (Option Filter))
    (are : AreLeft left base from filters) where
  -- no bit is left
  none_left : left ≡ 0 → HoldsNowhere (has_filter filters) (base + from) (base + 64)
  none_left is k above below =
      let at : base + (k - base) ≡ k = omega (arith, above) in
      ap (has_filter filters) (sym at)
      ∙ sym (are.coming (k - base) (omega (arith, above)) (omega (arith, above, below)))
      ∙ ap (λ w. has_bit w (k - base)) is
      ∙ ap (λ b. b == 1) (bit_at-zero (k - base))

  module _ (fits : left < 2 ^ 64) (some : 0 < left) where
    abbrev pub low : ℕ
    low = trailing_zeros w64 left

    low_is : (low < 64) × (bit_at left low ≡ 1) × ((i : ℕ) → i < low → bit_at left i ≡ 0)
    low_is = bit_at-trailing_zeros w64 left some fits

    low_bit : has_bit left low ≡ true
    low_bit = ap (λ b. b == 1) low_is.1

    above_passed : from ≤ low
    above_passed = elim (cases_lt low from) [
      | inl below ↦ absurd (let none = are.passed low below in let one = low_bit in cc)
      | inr above ↦ above
    ]

    -- the lowest is a filter that is set, in the table
    next_within : base + low < length filters
    next_within =
        is_within filters (base + low) (sym (are.coming low above_passed low_is.0) ∙ low_bit)

    -- none is set before it
    none_before : HoldsNowhere (has_filter filters) (base + from) (base + low)
    none_before k above below =
        let at : base + (k - base) ≡ k = omega (arith, above) in
        let small = low_is.0 in
        ap (has_filter filters) (sym at)
        ∙ sym (are.coming (k - base) (omega (arith, above)) (omega (arith, above, below, small)))
        ∙ ap (λ b. b == 1) (low_is.2 (k - base) (omega (arith, above, below)))

    abbrev pub rest : ℕ
    rest = bit_and left (bit_not w64 (1 * 2 ^ low % 2 ^ 64))

    rest_other : (k : ℕ) → k < 64 → (k ≡ low → ⊥) → has_bit rest k ≡ has_bit left k
    rest_other k small other =
        ap (λ b. b == 1) (bit_at_clear_other w64 left low low_is.0 k small other)

    -- and without it those past it are left
    left_after : (filter : Option Filter)
        → AreLeft rest base (low + 1) (slice_set filters (base + low) filter)
    left_after filter =
        let small = low_is.0 in
        record {
          few = omega (arith, small);
          passed = λ k below. elim (cases_eq k low) [
            | inl here ↦
                ap (has_bit rest) here
                ∙ ap (λ b. b == 1) (bit_at_clear_same w64 left low low_is.0)
            | inr other ↦
                rest_other k (omega (arith, below, small)) other
                ∙ ap (λ b. b == 1) (low_is.2 k (omega (arith, below, other)))
          ];
          coming = λ k above below.
              rest_other k below (λ e. omega (arith, e, above))
              ∙ are.coming k (let p = above_passed in omega (arith, p, above)) below
              ∙ ap (λ (o : Option Filter). is_some o) (sym (get_or-set_other filters (base + low)
              (base + k) filter None (λ e. omega (arith, e, above))));
        }

    -- which makes the word smaller
    smaller : rest < left
    smaller = elim (cases_eq rest left) [
      | inl same ↦ absurd (
          let gone : bit_at rest low ≡ 0 = bit_at_clear_same w64 left low low_is.0 in
          let both : bit_at rest low ≡ bit_at left low = ap (λ w. bit_at w low) same in
          let one = low_is.1 in omega (arith, gone, both, one))
      | inr other ↦ (
          let below = and_le_l left (bit_not w64 (1 * 2 ^ low % 2 ^ 64)) in
          omega (arith, below, other))
    ]

-- The filters of a word that a walk has passed are expired, as many as it counted; those of the
-- bits that are left are still to come.
abbrev pub IsWalked : List ℕ → List ℕ → ℕ → List (Option Filter) → ℕ → ℕ → List (Option Filter)
    → Type 0
IsWalked heads flows base old left count filters = (from : ℕ) × (count ≤ from)
    × AreLeft left base from filters
    × ((all : List (Option Filter)) (n : ℕ) → IsExpiredTo heads flows all base n old
    → IsExpiredTo heads flows all (base + from) (n + count) filters)
    × All (IsSeated heads flows) filters

module _ (heads flows : List ℕ) (base : ℕ) (old : List (Option Filter)) (left count : ℕ)
    (filters : List (Option Filter))
    (is : IsWalked heads flows base old left count filters) where
  -- after the last bit all filters of the word are
  pub walked_all : left ≡ 0 → (all : List (Option Filter)) (n : ℕ)
      → IsExpiredTo heads flows all base n old
      → IsExpiredTo heads flows all (base + 64) (n + count) filters
  walked_all none all n before =
      expired_past heads flows all filters (base + is.0) (n + count) (is.3 all n before) (base + 64)
      (let few = is.2.few in omega (arith, few)) (none_left left base is.0 filters is.2 none)

  module _ (fits : left < 2 ^ 64) (some : 0 < left) where
    abbrev pub next : ℕ
    next = base + low left base is.0 filters is.2 fits some

    pub is_there : next < length filters
    is_there = next_within left base is.0 filters is.2 fits some

    pub is_smaller : rest left base is.0 filters is.2 fits some < left
    is_smaller = smaller left base is.0 filters is.2 fits some

    -- one more bit
    pub walked_next : (new : List (Option Filter)) (more : ℕ)
        → new ≡ slice_set filters next
        (kept_of heads flows (slice_index_or filters next None))
        → more ≡ count + cond (is_old heads flows (slice_index_or filters next None)) 1 0
        → IsWalked heads flows base old (rest left base is.0 filters is.2 fits some) more new
    walked_next new more state one =
        let from = is.0 in
        let bit : ℕ = low left base from filters is.2 fits some in
        let past = above_passed left base from filters is.2 fits some in
        let flag = cond_le (is_old heads flows (slice_index_or filters next None)) in (
          bit + 1,
          omega (arith, past, is.1, one, flag),
          rw state (left_after left base from filters is.2 fits some _),
          λ all n before.
              rw state (
              expired_next heads flows all filters next (n + count) _ _ is_there
              (expired_past heads flows all filters (base + from) (n + count)
              (is.3 all n before) next (omega (arith, past))
              (none_before left base from filters is.2 fits some))
              (omega arith) (omega (arith, one))),
          rw state (seated_after heads flows filters next is_there is.4),
        )
