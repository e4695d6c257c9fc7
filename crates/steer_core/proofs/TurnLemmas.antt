-- Steps that are tried again in a row and those of each actor, from the last one back; and rounds.
use Rattle.std.proofs.Common.{ℕ, ◌+◌, ◌-◌, ◌<◌, ◌≤◌, ◌≡◌, zero, suc, Bool, true, false, cond, List}
use Rattle.std.proofs.Common.{refl, ap, ◌∙◌, sym, add-one, arith}
use Rattle.std.specs.Prelude.{◌&&◌, ◌||◌, not}
use Rattle.steer_base.specs.declared.command.Answer.{Answer}
use Rattle.steer_base.specs.declared.step.Step.{Step}
use Rattle.steer_model.specs.State.Machine.{Machine}
use Rattle.steer_model.specs.Steps.CompoundSteps.{Progress, again, for_each, one_round, rounds}
use Rattle.steer_model.specs.Steps.CompoundSteps.{tried, tries}
use Rattle.steer_model.specs.Steps.SingleSteps.{is_idle, is_work, simple}

again-none : (ss : List Step) (t : Progress) → again 0 ss t ≡ t
unfolding again
again-none ss t = refl

again-last : (n : ℕ) (ss : List Step) (t : Progress) → again (suc n) ss t ≡ tries (again n ss t) ss
unfolding again
again-last zero ss t = refl
again-last (suc n) ss t = again-last n ss (tries t ss)

again-more : (n : ℕ) (ss : List Step) (t : Progress) → again (n + 1) ss t ≡ tries (again n ss t) ss
again-more n ss t = ap (λ k. again k ss t) (add-one n) ∙ again-last n ss t

-- a loop of the same steps starts, and goes once more
pub again-start : (ss : List Step) (t : Progress) → t ≡ again 0 ss t
again-start ss t = sym (again-none ss t)

pub again-then : (n : ℕ) (ss : List Step) (t u v : Progress) → u ≡ again n ss t → v ≡ tries u ss
    → v ≡ again (n + 1) ss t
again-then n ss t u v before step = step ∙ ap (λ (t : Progress). tries t ss) before
    ∙ sym (again-more n ss t)

-- a loop over actors starts, and comes to the next one
pub each-start : (f : ℕ → Progress → Progress) (t : Progress) → t ≡ for_each 0 f t
unfolding for_each
each-start f t = refl

each-more : (n : ℕ) (f : ℕ → Progress → Progress) (t : Progress) → for_each (suc n) f t ≡ f n
    (for_each n f t)
unfolding for_each
each-more n f t = refl

pub each-then : (n : ℕ) (f : ℕ → Progress → Progress) (t u v : Progress) → u ≡ for_each n f t
    → v ≡ f n u
    → v ≡ for_each (n + 1) f t
each-then n f t u v before step =
    step ∙ ap (f n) before ∙ sym (ap (λ k. for_each k f t) (add-one n) ∙ each-more n f t)

-- or passes over actors whose turns would change nothing
module _ (f : ℕ → Progress → Progress) (t u : Progress) (from : ℕ)
    (before : u ≡ for_each from f t) where
  past-some : (k : ℕ) → ((i : ℕ) → from ≤ i → i < from + k → f i u ≡ u)
      → u ≡ for_each (from + k) f t
  past-some zero still = before ∙ ap (λ n. for_each n f t) (omega arith)
  past-some (suc k) still =
      each-then (from + k) f t u u
      (past-some k (λ i above below. still i above (omega (arith, below))))
      (sym (still (from + k) (omega arith) (omega arith)))
      ∙ ap (λ n. for_each n f t) (omega arith)

  pub each-past : (to : ℕ) → from ≤ to → ((i : ℕ) → from ≤ i → i < to → f i u ≡ u)
      → u ≡ for_each to f t
  each-past to le still =
      past-some (to - from) (λ i above below. still i above (omega (arith, le, below)))
      ∙ ap (λ n. for_each n f t) (omega (arith, le))

-- ---- rounds

rounds-done : (t : Progress) → rounds 0 t ≡ t
unfolding rounds
rounds-done t = refl

by-round : (k : ℕ) (m n : Machine) (w b : Bool) → ◌≡◌ {A = Progress} (n, b) (one_round (m, false))
    → rounds (suc k) (m, w) ≡ cond b (rounds k (n, true)) (n, w)
unfolding rounds
by-round k m n w b is =
    sym (ap (λ (t : Progress). cond t.1 (rounds k (t.0, true)) (t.0, w)) is)

left-suc : (most i : ℕ) → i < most → most - i ≡ suc (most - (i + 1))
left-suc most i lt = omega (arith, lt)

-- a loop of rounds starts
pub rounds-start : (most : ℕ) (t : Progress) → rounds (most - 0) t ≡ rounds most t
rounds-start most t = ap (λ k. rounds k t) (omega arith)

-- a round with work is one round less to go
pub rounds-on : (most i : ℕ) (m n : Machine) (w b : Bool) (goal : Progress) → i < most
    → ◌≡◌ {A = Progress} (n, b) (one_round (m, false)) → b ≡ true → rounds (most - i) (m, w) ≡ goal
    → rounds (most - (i + 1)) (n, true) ≡ goal
rounds-on most i m n w b goal lt is more before =
    let k : ℕ = most - (i + 1) in
    sym (ap (λ c. cond c (rounds k (n, true)) (n, w)) more) ∙ sym (by-round k m n w b is)
    ∙ sym (ap (λ j. rounds j (m, w)) (left-suc most i lt)) ∙ before

-- one without is the last
pub rounds-off : (most i : ℕ) (m n : Machine) (w b : Bool) (goal : Progress) → i < most
    → ◌≡◌ {A = Progress} (n, b) (one_round (m, false)) → b ≡ false → rounds (most - i) (m, w) ≡ goal
    → ◌≡◌ {A = Progress} (n, w) goal
rounds-off most i m n w b goal lt is none before =
    let k : ℕ = most - (i + 1) in
    sym (ap (λ c. cond c (rounds k (n, true)) (n, w)) none) ∙ sym (by-round k m n w b is)
    ∙ sym (ap (λ j. rounds j (m, w)) (left-suc most i lt)) ∙ before

-- and there are no more
pub rounds-end : (most i : ℕ) (t goal : Progress) → most ≤ i → rounds (most - i) t ≡ goal → t ≡ goal
rounds-end most i t goal past before =
    sym (rounds-done t) ∙ sym (ap (λ k. rounds k t) (none-left most i past)) ∙ before
  where
    none-left : (most i : ℕ) → most ≤ i → most - i ≡ 0
    none-left most i past = omega (arith, past)

-- ---- events that are tried

or-unworked : (w work b : Bool) → work ≡ false → (w || (work && b)) ≡ w
or-unworked true work b e = refl
or-unworked false false b e = refl
or-unworked false true b e = absurd (cc)

-- an event that is tried next leads from a machine to another one
module _ {m n : Machine} {w : Bool} {before : Progress} (is : ◌≡◌ {A = Progress} (m, w) before)
    (s : Step) (to : n ≡ (simple m s).0) where
  -- the event is no work
  pub then-idly : is_work s ≡ false → ◌≡◌ {A = Progress} (n, w) (tried before s)
  then-idly work =
      let none = or-unworked w (is_work s) (not (is_idle (simple m s).1)) work in
      let one : ◌≡◌ {A = Progress} (n, w) (tried (m, w) s) = rw (to, none) refl in
      one ∙ ap (λ (t : Progress). tried t s) is

  -- the event is work, and this is whether any was done
  pub then-with : {v : Bool} {a : Answer} → is_work s ≡ true → a ≡ (simple m s).1
      → v ≡ (w || not (is_idle a)) → ◌≡◌ {A = Progress} (n, v) (tried before s)
  then-with {v} {a} work answer did =
      let one : ◌≡◌ {A = Progress} (n, v) (tried (m, w) s) = rw (to, did, answer, work) refl in
      one ∙ ap (λ (t : Progress). tried t s) is
