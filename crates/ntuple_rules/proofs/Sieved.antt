-- What the sets of a sieve have, and what they let through.
use Rattle.std.proofs.Common.{◌≡◌, ◌<◌, ◌≤◌, ◌+◌, ◌*◌, ◌/◌, ◌%◌, ◌^◌, ℕ, List, length, set}
use Rattle.std.proofs.Common.{get_or, slice_get, Bool, true, false, Option, Some, None, IfSome}
use Rattle.std.proofs.Common.{bit_and, bit_or, eqb, refl, ap, sym, subst, ◌∙◌, arith}
use Rattle.std.specs.Int.{bit_at}
use Rattle.std.proofs.lemmas.Bool.{eqb-true, eqb-false}
use Rattle.std.proofs.lemmas.List.{get_or-set_same, get_or-set_other, length-set}
use Rattle.std.proofs.lemmas.Nat.{and_shr, and_mod}
use Rattle.std.proofs.lemmas.Nat.Bits.{bit_at_and, bit_at_or, bit_at-lt}
use Rattle.std.proofs.lemmas.Option.{get_or_from_slice_get, slice_get-get_or}
use Rattle.std.proofs.lemmas.Option.{slice_get_within}
use Rattle.ntuple_rules.specs.Sieves.{digit_at, AllowsNumber, IsIn, Keeps}

-- ---- a set of groups

is_in_from : (sets : List ℕ) (i place : ℕ)
    → (i < length sets → bit_at (get_or sets i 0) place ≡ 1) → IsIn sets i place
is_in_from sets i place f = by (slice_get sets i) refl
  where
    by : (found : Option ℕ) → slice_get sets i ≡ found
        → IfSome found (λ set. bit_at set place ≡ 1)
    by None e = tt
    by (Some s) e =
        subst (λ set. bit_at set place ≡ 1) (get_or_from_slice_get sets i s 0 e)
        (f (slice_get_within sets i s e))

is_in_read : (sets : List ℕ) (i place : ℕ) → IsIn sets i place → i < length sets
    → bit_at (get_or sets i 0) place ≡ 1
is_in_read sets i place is within =
    subst (λ found. IfSome found (λ set. bit_at set place ≡ 1)) (slice_get-get_or sets i 0 within)
    is

same_read : (sets : List ℕ) (i d e : ℕ) → i < length sets → get_or sets i d ≡ get_or sets i e
same_read sets i d e within =
    get_or_from_slice_get sets i (get_or sets i e) d (slice_get-get_or sets i e within)

-- a set with more groups
module _ (sets : List ℕ) (index was more : ℕ) (within : index < length sets)
    (is : was ≡ get_or sets index was) where
  pub or_keeps : Keeps sets (set sets index (bit_or was more))
  or_keeps = record {
    size = length-set sets index (bit_or was more);
    kept = λ i p old. is_in_from (set sets index (bit_or was more)) i p
        (λ inside. by i p old (rw (length-set sets index (bit_or was more)) at inside)
        (eqb i index) refl);
  }
    where
      by : (i p : ℕ) → IsIn sets i p → i < length sets → (b : Bool) → eqb i index ≡ b
          → bit_at (get_or (set sets index (bit_or was more)) i 0) p ≡ 1
      by i p old inside true e =
          let at : i ≡ index = eqb-true i index e in
          let had : bit_at (get_or sets index 0) p ≡ 1 =
          subst (λ j. bit_at (get_or sets j 0) p ≡ 1) at (is_in_read sets i p old inside) in
          let here : bit_at was p ≡ 1 =
          ap (λ n. bit_at n p) (is ∙ same_read sets index was 0 within) ∙ had in
          subst (λ j. bit_at (get_or (set sets index (bit_or was more)) j 0) p ≡ 1) (sym at)
          (ap (λ n. bit_at n p) (get_or-set_same sets index (bit_or was more) 0 within)
          ∙ omega (arith, bit_at_or was more p, here, bit_at-lt more p))
      by i p old inside false e =
          ap (λ n. bit_at n p)
          (get_or-set_other sets index i (bit_or was more) 0 (eqb-false i index e))
          ∙ is_in_read sets i p old inside

  pub or_is_in : (place : ℕ) → bit_at more place ≡ 1
      → IsIn (set sets index (bit_or was more)) index place
  or_is_in place has = is_in_from (set sets index (bit_or was more)) index place
      (λ inside. ap (λ n. bit_at n place)
      (get_or-set_same sets index (bit_or was more) 0 within)
      ∙ omega (arith, bit_at_or was more place, has, bit_at-lt was place))

-- there is no set past the end
pub is_in_past : (sets : List ℕ) (index place : ℕ) → length sets ≤ index → IsIn sets index place
is_in_past sets index place past =
    is_in_from sets index place (λ inside. absurd (omega (arith, inside, past)))

-- ---- the digits of a number

-- they agree with those of a key that the number agrees with
pub digits_agree : (number mask key k : ℕ) → bit_and number mask ≡ key
    → bit_and (digit_at number k) (digit_at mask k) ≡ digit_at key k
digits_agree number mask key k e =
    sym (and_mod (number / 2 ^ (4 * k)) (mask / 2 ^ (4 * k)) 4)
    ∙ ap (λ n. n % 16) (sym (and_shr number mask (4 * k)) ∙ ap (λ n. n / 2 ^ (4 * k)) e)

-- sets that keep their groups
pub keeps_number : (old new : List ℕ) (row digits place number : ℕ) → Keeps old new
    → AllowsNumber old row digits place number → AllowsNumber new row digits place number
keeps_number old new row digits place number keeps allows k within =
    keeps.kept (16 * (row + k) + digit_at number k) place (allows k within)

-- a candidate that a further set has is left
pub left_in : (left set place : ℕ) → bit_at left place ≡ 1 → bit_at set place ≡ 1
    → bit_at (bit_and left set) place ≡ 1
left_in left set place a b = omega (arith, bit_at_and left set place, a, b)

pub keeps_trans : (a b c : List ℕ) → Keeps a b → Keeps b c → Keeps a c
keeps_trans a b c ab bc = record {
  size = bc.size ∙ ab.size;
  kept = λ index place is. bc.kept index place (ab.kept index place is);
}

-- a number that agrees with a key in one digit more
pub allows_more : (old new : List ℕ) (row digits place number mask key : ℕ)
    → bit_and number mask ≡ key → AllowsNumber old row digits place number → Keeps old new
    → ((v : ℕ) → v < 16 → bit_and v (digit_at mask digits) ≡ digit_at key digits
    → IsIn new (16 * (row + digits) + v) place)
    → (k : ℕ) → k < digits + 1 → IsIn new (16 * (row + k) + digit_at number k) place
allows_more old new row digits place number mask key agrees allows keeps admits k within =
    by (eqb k digits) refl
  where
    by : (b : Bool) → eqb k digits ≡ b → IsIn new (16 * (row + k) + digit_at number k) place
    by true e =
        subst (λ j. IsIn new (16 * (row + j) + digit_at number j) place)
        (sym (eqb-true k digits e))
        (admits (digit_at number digits) (omega arith)
        (digits_agree number mask key digits agrees))
    by false e =
        keeps.kept (16 * (row + k) + digit_at number k) place
        (allows k (omega (arith, within, eqb-false k digits e)))
