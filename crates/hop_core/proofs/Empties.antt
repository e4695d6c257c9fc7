-- A loop over the lanes that looks for the first one that is not empty.
use Rattle.std.proofs.Common.{ℕ, ◌+◌, ◌%◌, ◌≤◌, ◌<◌, ◌≡◌, ◌≢◌, Bool, true, false, List, [], ◌∷◌}
use Rattle.std.proofs.Common.{length, ◌++◌, ◌-◌, ◌⊎◌, refl, ap, ◌∙◌, sym, arith, inl, inr, cond}
use Rattle.std.proofs.Common.{zero, suc, append_assoc}
use Rattle.std.specs.Prelude.{◌↔◌, Err, IsOk, not, ◌==◌, ◌&&◌, ◌^◌, Ok}
use Rattle.std.proofs.lemmas.Bool.{cases_Bool, cases_eq, eq-eqb, ne_eqb}
use Rattle.std.proofs.lemmas.List.{length-append}
use Rattle.steer_base.specs.Counters.{number}
use Rattle.steer_base.specs.Sets.{has, those_below}
use Rattle.steer_base.specs.declared.command.Busy.TheVariants.{NotEmpty}
use Rattle.steer_base.specs.declared.cpu_mask.CpuMask.{CpuMask}
use Rattle.steer_base.proofs.SetsLemmas.{those_below-more, those_below-same, those_below-zero}
use Rattle.steer_base.proofs.SetsLemmas.{those_below_fail}
use Rattle.hop_model.specs.Emptied.{AreEmptiedOf, EmptiedIsExact, SetIsAsked, emptied_of}
use Rattle.hop_model.specs.Emptied.{first_busy}
use Rattle.hop_model.specs.Emptied.{is_waiting, waiting}
use Rattle.hop_model.specs.Events.{IsEmptied}
use Rattle.hop_model.specs.Hop.{HopState, accepted_at, head_at, retired_at, tail_at}
use Rattle.hop_model.specs.Sound.{Sound}
use Rattle.hop_core.proofs.Fits.{fits_room}

-- numbers of small counts are equal where the counts are
same_number : (start a b : ℕ) → start < 2 ^ 32 → a ≤ 262144 → b ≤ 262144
    → number start a ≡ number start b → a ≡ b
same_number start a b s ha hb e = omega arith

pub head_is_tail : (s : HopState) (c : ℕ) → Sound s
    → head_at s.fixed.start s.bare c ≡ tail_at s.fixed.start s.bare c → retired_at s.bare c ≡ length
    (accepted_at s.bare c)
head_is_tail s c h e =
    let f = (fits_room s h).puts c in let r = h.small.room in
    let a = h.counts.retired_first c in let b = h.counts.delivered_first c in
    let d = h.counts.pulled_first c in
    same_number s.fixed.start (retired_at s.bare c) (length (accepted_at s.bare c)) h.small.start
    (omega arith) (omega arith) e

-- the tail less the head is the difference of their counts
number-less : (start a b : ℕ) → start < 2 ^ 32 → a ≤ 262144 → b ≤ a
    → (number start a + (2 ^ 32 - number start b)) % 2 ^ 32 ≡ a - b
number-less start a b s ha le = omega arith

pub unretired : (s : HopState) (c : ℕ) → Sound s
    → (tail_at s.fixed.start s.bare c + (2 ^ 32 - head_at s.fixed.start s.bare c)) % 2 ^ 32 ≡ length
    (accepted_at s.bare c) - retired_at s.bare c
unretired s c h =
    let f = (fits_room s h).puts c in let r = h.small.room in
    let a = h.counts.retired_first c in let b = h.counts.delivered_first c in
    let d = h.counts.pulled_first c in
    number-less s.fixed.start (length (accepted_at s.bare c)) (retired_at s.bare c) h.small.start
    (omega arith) (omega arith)

-- the tail less the number of no packet is the count
pub accepted_count : (s : HopState) (c : ℕ) → Sound s
    → (tail_at s.fixed.start s.bare c + (2 ^ 32 - number s.fixed.start 0)) % 2 ^ 32 ≡ length
    (accepted_at s.bare c)
accepted_count s c h =
    let f = (fits_room s h).puts c in let r = h.small.room in
    let e = number-less s.fixed.start (length (accepted_at s.bare c)) 0 h.small.start (omega arith)
    (omega arith) in
    e ∙ (let g : length (accepted_at s.bare c) - 0 ≡ length (accepted_at s.bare c) = omega arith in
    g)

-- a lane whose head is its tail does not wait, and no lane that is not in the set
pub waits_not : (s : HopState) (lanes : CpuMask) (c : ℕ) → Sound s
    → ((has lanes c ≡ true) × (head_at s.fixed.start s.bare c ≡ tail_at s.fixed.start s.bare c))
    ⊎ (has lanes c ≡ false) → is_waiting s (has lanes) c ≡ false
waits_not s lanes c h (inl a) =
    rw (a.0, eq-eqb (retired_at s.bare c) (length (accepted_at s.bare c)) (head_is_tail s c h a.1))
    refl
waits_not s lanes c h (inr b) = rw b refl

pub waits : (s : HopState) (lanes : CpuMask) (c : ℕ) → has lanes c ≡ true
    → head_at s.fixed.start s.bare c ≢ tail_at s.fixed.start s.bare c
    → is_waiting s (has lanes) c ≡ true
waits s lanes c named apart =
    let ne : retired_at s.bare c ≢ length (accepted_at s.bare c) =
    λ e. apart (ap (number s.fixed.start) e) in
    rw (named, ne_eqb (retired_at s.bare c) (length (accepted_at s.bare c)) ne) refl

-- what stands behind a number that passes
split : (test : ℕ → Bool) (c : ℕ) → test c ≡ true → (m : ℕ) → (rest : List ℕ)
    × (those_below (c + 1 + m) test ≡ those_below c test ++ c ∷ rest)
split test c passes zero = (
  [],
  ap (λ k. those_below k test) (let e : c + 1 + 0 ≡ c + 1 = omega arith in e)
      ∙ those_below-more c test
      ∙ ap (λ b. those_below c test ++ cond b (c ∷ []) []) passes,
)
split test c passes (suc m) =
    let more = split test c passes m in
    let new : List ℕ = cond (test (c + 1 + m)) ((c + 1 + m) ∷ []) [] in
    let e : c + 1 + suc m ≡ c + 1 + m + 1 = omega arith in (
      more.0 ++ new,
      ap (λ k. those_below k test) e ∙ those_below-more (c + 1 + m) test
          ∙ ap (λ xs. xs ++ new) more.1 ∙ append_assoc (those_below c test) (c ∷ more.0) new,
    )

split-below : (n : ℕ) (test : ℕ → Bool) (c : ℕ) → c < n → test c ≡ true → (rest : List ℕ)
    × (those_below n test ≡ those_below c test ++ c ∷ rest)
split-below n test c lt passes =
    let s = split test c passes (n - (c + 1)) in
    let e : n ≡ c + 1 + (n - (c + 1)) = omega arith in (s.0, ap (λ k. those_below k test) e ∙ s.1)

-- none passes: each fails, and the other way round
none-each : (n : ℕ) (test : ℕ → Bool) → those_below n test ≡ [] → (c : ℕ) → c < n → test c ≡ false
none-each n test none c lt =
    elim (cases_Bool (test c)) [
      | inl passes ↦ absurd (
          let s = split-below n test c lt passes in
          let long : length (those_below c test ++ c ∷ s.0) ≡ 0 = ap length (sym s.1 ∙ none) in
          let both = length-append (those_below c test) (c ∷ s.0) in omega arith)
      | inr fails ↦ fails
    ]

each-none : (n : ℕ) (test : ℕ → Bool) → ((c : ℕ) → c < n → test c ≡ false) → those_below n test ≡ []
each-none zero test each = those_below-zero test
each-none (suc n) test each =
    let e : suc n ≡ n + 1 = omega arith in
    ap (λ k. those_below k test) e ∙ those_below_fail n test (each n (omega arith))
    ∙ each-none n test (λ c lt. each c (omega arith))

pub busy_at : (s : HopState) (asked : ℕ → Bool) (c : ℕ) → those_below c (is_waiting s asked) ≡ []
    → c < length s.bare.accepted → is_waiting s asked c ≡ true
    → Err (NotEmpty c (head_at s.fixed.start s.bare c)
    (tail_at s.fixed.start s.bare c)) ≡ emptied_of s asked
busy_at s asked c none lt passes =
    let f = split-below (length s.bare.accepted) (is_waiting s asked) c lt passes in
    let first : waiting s asked ≡ c ∷ f.0 = rw none at f.1 in
    rw first refl

pub all_empty : (s : HopState) (asked : ℕ → Bool) → waiting s asked ≡ []
    → Ok tt ≡ emptied_of s asked
all_empty s asked none = rw none refl

empty_at : (s : HopState) (asked : ℕ → Bool) (c : ℕ) → is_waiting s asked c ≡ false → asked c ≡ true
    → IsEmptied s.bare c
empty_at s asked c quiet named =
    let f : not (retired_at s.bare c == length (accepted_at s.bare c)) ≡ false =
    rw named at quiet in
    elim (cases_eq (retired_at s.bare c) (length (accepted_at s.bare c))) [
      | inl e ↦ e
      | inr ne ↦ absurd (let g : true ≡ false = rw (ne_eqb (retired_at s.bare c)
          (length (accepted_at s.bare c)) ne) at f in cc)
    ]

quiet_at : (s : HopState) (asked : ℕ → Bool) (c : ℕ) → (asked c ≡ true → IsEmptied s.bare c)
    → is_waiting s asked c ≡ false
quiet_at s asked c empty =
    elim (cases_Bool (asked c)) [
      | inl named ↦ rw (
        named,
        eq-eqb (retired_at s.bare c) (length (accepted_at s.bare c))
            (empty named),
      ) refl
      | inr other ↦ rw other refl
    ]

ok-waiting : (s : HopState) (asked : ℕ → Bool) (xs : List ℕ) → waiting s asked ≡ xs
    → IsOk (first_busy s xs) ↔ AreEmptiedOf s asked
ok-waiting s asked [] e = (
  λ ok c lt named. empty_at s asked c (none-each (length s.bare.accepted)
      (is_waiting s asked) e c lt) named,
  λ all. refl,
)
ok-waiting s asked (x ∷ xs) e = (
  λ ok. absurd cc,
  λ all. absurd (let f = each-none (length s.bare.accepted) (is_waiting s asked)
      (λ c lt. quiet_at s asked c (all c lt)) in let g : (x ∷ xs) ≡ [] = sym e ∙ f in cc),
)

-- the answer is Ok exactly where each lane that is asked for is empty
pub emptied_is_exact : EmptiedIsExact
emptied_is_exact s asked = ok-waiting s asked (waiting s asked) refl

pub set_is_asked : SetIsAsked
set_is_asked s lanes asked same =
    ap (first_busy s) (those_below-same (length s.bare.accepted) (is_waiting s (has lanes))
    (is_waiting s asked)
    (λ c lt. ap (λ b. b && not (retired_at s.bare c == length (accepted_at s.bare c))) (same c lt)))
