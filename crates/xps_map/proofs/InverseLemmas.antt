-- A transmit queue is put into the sets of some places, one after the other.
use Rattle.std.proofs.Common.{ℕ, ◌≡◌, ◌<◌, ◌^◌, Bool, true, false, not, List, [], ◌∷◌, length}
use Rattle.std.proofs.Common.{inl, inr, refl, sym, ap, ◌∙◌, subst}
use Rattle.std.specs.Prelude.{◌==◌, ◌&&◌, if◌then◌else◌, count_ones}
use Rattle.std.proofs.lemmas.Bool.{and_parts, cases_eq, eq-eqb, ne_eqb, false≢true}
use Rattle.std.proofs.lemmas.Nat.{zero_from_ones}
use Rattle.steer_base.proofs.MasksLemmas.{and_true, count_ones-members}
use Rattle.steer_base.specs.Sets.{has, is_empty, members}
use Rattle.steer_base.specs.declared.cpu_mask.CpuMask.{CpuMask}
use Rattle.xps_map.proofs.MapsLemmas.{has-none}
use Rattle.xps_map.specs.Inverses.{Puts, serving}

-- at the place itself, and at another
stands_here : (same done rest stands old : Bool)
    → (if same && true then stands else (if same && done then stands else old))
    ≡ (if same && not (rest && false) then stands else old)
stands_here true done true stands old = refl
stands_here true done false stands old = refl
stands_here false done rest stands old = refl

stands_there : (same places rest stands old : Bool)
    → (if same && false then stands else (if same && (places && not rest) then stands else old))
    ≡ (if same && (places && not (rest && true)) then stands else old)
stands_there true places true stands old = refl
stands_there true places false stands old = refl
stands_there false places rest stands old = refl

-- the sets after one place more
pub Puts-more : (tx place : ℕ) (places rest next : CpuMask) (stands : Bool)
    (old mid new : List CpuMask)
    → Puts tx (λ p. has places p && not (has rest p)) stands old mid
    → Puts tx (λ p. place == p) stands mid new
    → has places place ≡ true
    → ((p : ℕ) → has next p ≡ (has rest p && not (place == p)))
    → Puts tx (λ p. has places p && not (has next p)) stands old new
Puts-more tx place places rest next stands old mid new done one member next_is = record {
  len = one.len ∙ done.len;
  sets = λ other p within.
      let within_mid : p < length mid = subst (λ n. p < n) (sym done.len) within in
      one.sets other p within_mid
      ∙ elim (cases_eq place p) [
        | inl here ↦
            let on : has places p ≡ true = ap (has places) (sym here) ∙ member in
            rw (next_is p, eq-eqb place p here, on, done.sets other p within)
            (stands_here (tx == other) (has places p && not (has rest p)) (has rest p) stands
            (serving old other p))
        | inr there ↦
            rw (next_is p, ne_eqb place p there, done.sets other p within)
            (stands_there (tx == other) (has places p) (has rest p) stands (serving old other p))
      ];
}

-- what is left are still some of the places
pub rest-more : (places rest next : CpuMask) (place : ℕ)
    → ((p : ℕ) → has rest p ≡ true → has places p ≡ true)
    → ((p : ℕ) → has next p ≡ (has rest p && not (place == p)))
    → (p : ℕ) → has next p ≡ true → has places p ≡ true
rest-more places rest next place among next_is p on =
    among p (and_parts (has rest p) (not (place == p)) (sym (next_is p) ∙ on)).0

-- an empty set has no place
length-empty : (xs : List ℕ) → is_empty xs ≡ true → length xs ≡ 0
length-empty [] none = refl
length-empty (x ∷ xs) none = absurd (false≢true none)

has-empty : (set : CpuMask) → set.0 < 2 ^ 32 → is_empty (members set) ≡ true → (p : ℕ)
    → has set p ≡ false
has-empty set fits none p =
    let count : count_ones set.0 ≡ 0 =
    count_ones-members set fits ∙ length-empty (members set) none in
    ap (λ n. has (record { 0 = n }) p) (zero_from_ones set.0 count) ∙ has-none p

-- where none is left, all are done
pub Puts-all : (tx : ℕ) (places rest : CpuMask) (stands : Bool) (old new : List CpuMask)
    → rest.0 < 2 ^ 32
    → is_empty (members rest) ≡ true
    → Puts tx (λ p. has places p && not (has rest p)) stands old new
    → Puts tx (λ p. has places p) stands old new
Puts-all tx places rest stands old new fits none done = record {
  len = done.len;
  sets = λ other p within.
      done.sets other p within
      ∙ rw (has-empty rest fits none p, and_true (has places p)) refl;
}
