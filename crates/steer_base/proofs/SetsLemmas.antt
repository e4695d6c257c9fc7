-- What a loop over the numbers below n finds out of those that pass a test.
use Rattle.std.proofs.Common.{ℕ, sym, zero, suc, ◌+◌, ◌<◌, ◌≤◌, ◌≡◌, Bool, true, false, cond, List}
use Rattle.std.proofs.Common.{[], ◌∷◌, ◌++◌, length, get_or, refl, ap, ◌∙◌, arith, add-one}
use Rattle.std.proofs.Common.{zero-add, length-append, append_assoc, append-nil, add-zero, ◌-◌}
use Rattle.std.specs.List.{All, range_with_len, filter}
use Rattle.std.proofs.lemmas.List.{get_or-append-add}
use Rattle.std.proofs.lemmas.List.Elements.{filter-append, filter_passes, All-filter}
use Rattle.std.proofs.lemmas.List.Elements.{All-from_get_or}
use Rattle.std.proofs.lemmas.List.FromFn.{length-range_with_len, get_or-range_with_len}
use Rattle.steer_base.specs.Sets.{those_below}

range-more : (from n : ℕ) → range_with_len from (suc n) ≡ range_with_len from n ++ (from + n) ∷ []
range-more from zero = let e : from ≡ from + 0 = omega arith in ap (λ k. k ∷ []) e
range-more from (suc n) =
    let e : from + 1 + n ≡ from + suc n = omega arith in
    ap (λ xs. from ∷ xs) (range-more (from + 1) n ∙ ap (λ k. range_with_len (from + 1) n ++ k
    ∷ []) e)

-- one number more: it is kept where it passes the test
pub those_below-more : (n : ℕ) (test : ℕ → Bool) → those_below (n + 1) test ≡ those_below n test
    ++ cond (test n) (n ∷ []) []
unfolding those_below
those_below-more n test =
    ap (λ k. those_below k test) (add-one n) ∙ ap (filter test) (range-more 0 n
    ∙ ap (λ k. range_with_len 0 n ++ k ∷ []) (zero-add n))
    ∙ filter-append test (range_with_len 0 n) (n ∷ [])

-- a number that passes adds one
pub length-those_below_pass : (n : ℕ) (test : ℕ → Bool) → test n ≡ true
    → length (those_below (n + 1) test) ≡ length (those_below n test) + 1
length-those_below_pass n test passes =
    ap length (those_below-more n test) ∙ length-append (those_below n test)
    (cond (test n) (n ∷ []) [])
    ∙ ap (λ b. length (those_below n test) + length (cond b (n ∷ []) [])) passes

-- one that fails adds none
pub those_below_fail : (n : ℕ) (test : ℕ → Bool) → test n ≡ false → those_below
    (n + 1) test ≡ those_below n test
those_below_fail n test fails =
    those_below-more n test ∙ ap (λ b. those_below n test ++ cond b (n ∷ []) []) fails ∙ append-nil
    (those_below n test)

-- what stands behind a number that passes
those_below-split : (i : ℕ) (test : ℕ → Bool) → test i ≡ true → (m : ℕ)
    → (rest : List ℕ) × (those_below (i + 1 + m) test ≡ those_below i test ++ i ∷ rest)
those_below-split i test passes zero = (
  [],
  ap (λ k. those_below k test) (add-zero (i + 1)) ∙ those_below-more i test
      ∙ ap (λ b. those_below i test ++ cond b (i ∷ []) []) passes,
)
those_below-split i test passes (suc m) =
    let more = those_below-split i test passes m in
    let new : List ℕ = cond (test (i + 1 + m)) ((i + 1 + m) ∷ []) [] in
    let e : i + 1 + suc m ≡ i + 1 + m + 1 = omega arith in (
      more.0 ++ new,
      ap (λ k. those_below k test) e ∙ those_below-more (i + 1 + m) test
          ∙ ap (λ xs. xs ++ new) more.1
          ∙ append_assoc (those_below i test) (i ∷ more.0) new,
    )

-- a number that passes stands behind those below it
pub slice_index-those_below : (n : ℕ) (test : ℕ → Bool) (i : ℕ) → i < n → test i ≡ true
    → get_or (those_below n test) (length (those_below i test)) 0 ≡ i
slice_index-those_below n test i below passes =
    let split = those_below-split i test passes (n - (i + 1)) in
    let e : n ≡ i + 1 + (n - (i + 1)) = omega arith in
    let f : length (those_below i test) ≡ length (those_below i test) + 0 = omega arith in
    ap (λ k. get_or (those_below k test) (length (those_below i test)) 0) e
    ∙ ap (λ xs. get_or xs (length (those_below i test)) 0) split.1
    ∙ ap (λ k. get_or (those_below i test ++ i ∷ split.0) k 0) f
    ∙ get_or-append-add (those_below i test) (i ∷ split.0) 0 0

-- below 0 there are none
pub those_below-zero : (test : ℕ → Bool) → those_below 0 test ≡ []
unfolding those_below
those_below-zero test = refl

-- those kept are below the bound and pass
pub those_below-passes : (n : ℕ) (test : ℕ → Bool) → All (λ i. test i ≡ true) (those_below n test)
unfolding those_below
those_below-passes n test = filter_passes test (range_with_len 0 n)

pub those_below-below : (n : ℕ) (test : ℕ → Bool) → All (λ i. i < n) (those_below n test)
unfolding those_below
those_below-below n test =
    All-filter test (λ i. i < n) (range_with_len 0 n) (All-from_get_or (λ i. i < n)
    (range_with_len 0 n) 0 λ i h.
    let long = length-range_with_len 0 n in
    let here : i < n = omega arith in
    rw (get_or-range_with_len 0 n i 0 here) (omega arith))

-- where all pass, all are kept
pub length-those_below_all : (n : ℕ) → length (those_below n (λ i. true)) ≡ n
length-those_below_all zero = ap length (those_below-zero (λ i. true))
length-those_below_all (suc n) =
    ap (λ k. length (those_below k (λ i. true))) (sym (add-one n)) ∙ length-those_below_pass n
    (λ i. true) refl
    ∙ ap (λ k. k + 1) (length-those_below_all n) ∙ add-one n

-- two tests that say the same of the numbers below the bound keep the same
pub those_below-same : (n : ℕ) (f g : ℕ → Bool) → ((i : ℕ) → i < n → f i ≡ g i)
    → those_below n f ≡ those_below n g
those_below-same zero f g same = those_below-zero f ∙ sym (those_below-zero g)
those_below-same (suc n) f g same =
    let e : suc n ≡ n + 1 = omega arith in
    ap (λ k. those_below k f) e ∙ those_below-more n f
    ∙ ap (λ xs. xs ++ cond (f n) (n ∷ []) [])
    (those_below-same n f g (λ i lt. same i (omega arith)))
    ∙ ap (λ b. those_below n g ++ cond b (n ∷ []) []) (same n (omega arith))
    ∙ sym (those_below-more n g) ∙ ap (λ k. those_below k g) (sym e)

-- numbers that fail add nothing
pub those_below-fewer : (n more : ℕ) (test : ℕ → Bool) → ((i : ℕ) → n ≤ i → test i ≡ false)
    → those_below (n + more) test ≡ those_below n test
those_below-fewer n zero test fails = ap (λ k. those_below k test) (add-zero n)
those_below-fewer n (suc more) test fails =
    let e : n + suc more ≡ n + more + 1 = omega arith in
    ap (λ k. those_below k test) e ∙ those_below_fail (n + more) test
    (fails (n + more) (omega arith))
    ∙ those_below-fewer n more test fails
