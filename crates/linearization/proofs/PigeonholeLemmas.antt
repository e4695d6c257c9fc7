-- So many distinct numbers below a bound are all of them.
use Rattle.std.proofs.Common.{◌≡◌, ◌≢◌, ℕ, zero, suc, ◌<◌, ◌≤◌, ◌==◌, if◌then◌else◌, sym, refl, ap}
use Rattle.std.proofs.Common.{◌∙◌, subst, arith}
use mathlib.Core.Logic.{dite}
use native.Mathlib.Decide.{ℕ_discrete, dec_lt}
use Rattle.linearization.proofs.ListLemmas.{if_same, if_other}

-- f gives k numbers below n, and at gives the place of each
abbrev pub AreApart : ℕ → ℕ → (ℕ → ℕ) → (ℕ → ℕ) → Type 0
AreApart k n f at = (m : ℕ) → m < k → (f m < n) × (at (f m) ≡ m)

-- without the number n, whose place takes the last one
fewer : (k n : ℕ) (f at : ℕ → ℕ) → AreApart (suc k) (suc n) f at → AreApart k n
    (λ m. if m == at n then f k else f m) (λ x. if at x == k then at n else at x)
fewer k n f at apart m l = dite (ℕ_discrete m (at n))
    (λ here. let last = apart k (omega arith) in let below = last.0 in
    let not_n : f k ≢ n = λ e. let back : at n ≡ k = ap at (sym e) ∙ last.1 in
    absurd (omega arith) in
    subst (λ (z : ℕ). (z < n) × ((if at z == k then at n else at z) ≡ m))
    (sym (if_same m (at n) (f k) (f m) here))
    (omega arith, if_same (at (f k)) k (at n) (at (f k)) last.1 ∙ sym here))
    (λ away. let this = apart m (omega arith) in let below = this.0 in let back = this.1 in
    let not_n : f m ≢ n = λ e. away (sym back ∙ ap at e) in
    let not_k : at (f m) ≢ k = λ e. absurd (omega arith) in
    subst (λ (z : ℕ). (z < n) × ((if at z == k then at n else at z) ≡ m))
    (sym (if_other m (at n) (f k) (f m) away))
    (omega arith, if_other (at (f m)) k (at n) (at (f m)) not_k ∙ back))

pub no_more : (n k : ℕ) (f at : ℕ → ℕ) → AreApart k n f at → k ≤ n
no_more zero zero f at apart = omega arith
no_more zero (suc k) f at apart = let one = (apart 0 (omega arith)).0 in absurd (omega arith)
no_more (suc n) zero f at apart = omega arith
no_more (suc n) (suc k) f at apart = let fits = no_more n k (λ m. if m == at n then f k else f m)
    (λ x. if at x == k then at n else at x) (fewer k n f at apart) in omega arith

-- with one number more, that is none of them
more : (k n q : ℕ) (f at : ℕ → ℕ) → AreApart k n f at → q < n → ((m : ℕ) → m < k → f m ≢ q)
    → AreApart (suc k) n (λ m. if m == k then q else f m) (λ x. if x == q then k else at x)
more k n q f at apart low none m l = dite (ℕ_discrete m k)
    (λ last. subst (λ (z : ℕ). (z < n) × ((if z == q then k else at z) ≡ m))
    (sym (if_same m k q (f m) last)) (low, if_same q q k (at q) refl ∙ sym last))
    (λ before. let inside : m < k = omega arith in let this = apart m inside in
    subst (λ (z : ℕ). (z < n) × ((if z == q then k else at z) ≡ m))
    (sym (if_other m k q (f m) before)) (
      this.0,
      if_other (f m) q k (at (f m)) (none m inside)
          ∙ this.1,
    ))

pub all_there : (n q : ℕ) (f at : ℕ → ℕ) → AreApart n n f at → q < n → (m : ℕ) × (m < n) × (f m ≡ q)
all_there n q f at apart low = dite (ℕ_discrete (f (at q)) q)
    (λ same. dite (dec_lt (at q) n) (λ inside. (at q, inside, same))
    (λ outside. absurd
    (missed (λ m l e. outside (subst (λ (z : ℕ). z < n) (sym (ap at (sym e) ∙ (apart m l).1))
    l)))))
    (λ other. absurd (missed (λ m l e. other (ap f (ap at (sym e) ∙ (apart m l).1) ∙ e))))
  where
    missed : ((m : ℕ) → m < n → f m ≢ q) → ⊥
    missed none = let fits = no_more n (suc n) (λ m. if m == n then q else f m)
        (λ x. if x == q then n else at x) (more n n q f at apart low none) in absurd (omega arith)
