-- Lists whose items are so at their indices, and the actors that a seat plays.
use Rattle.std.proofs.Common.{◌-◌, max, mul_comm, le_antisymm, le_of_mul-le-mul_right}
use Rattle.run_workers.proofs.Names.{◌≡◌, ◌≢◌, ◌⊎◌, inl, inr, ℕ, zero, suc, ◌+◌, ◌*◌, ◌<◌, ◌≤◌}
use Rattle.run_workers.proofs.Names.{◌==◌, true, false, List, [], ◌∷◌, Some, refl, sym, subst, ◌∙◌}
use Rattle.run_workers.proofs.Names.{length, slice_get, slice_set, arith, All, eqb_tells, All-cons}
use Rattle.run_workers.proofs.Names.{StepBy, step_by, BoardSizes, none-some, some-is, TurnsGrow}
use Rattle.run_workers.proofs.Names.{Each, IsTurnOfOne, actor_at}

module _ {A : Type 0} where
  -- each item of a list in which one is set
  pub each_set : (Is Was : ℕ → A → Type 0) (xs : List A) (i : ℕ) (e : A) → Is i e
      → ((k : ℕ) (x : A) → k ≢ i → Was k x → Is k x) → Each Was xs → Each Is (slice_set xs i e)
  each_set Is Was [] i e is other each k y got = none-some y got
  each_set Is Was (x ∷ xs) zero e is other each zero y got = subst (Is 0) (some-is e y got) is
  each_set Is Was (x ∷ xs) zero e is other each (suc k) y got =
      other (suc k) y (λ (q : suc k ≡ 0). omega (arith, q)) (each (suc k) y got)
  each_set Is Was (x ∷ xs) (suc i) e is other each zero y got =
      other 0 y (λ (q : 0 ≡ suc i). omega (arith, q)) (each 0 y got)
  each_set Is Was (x ∷ xs) (suc i) e is other each (suc k) y got =
      each_set (λ k z. Is (suc k) z) (λ k z. Was (suc k) z) xs i e is
      (λ k z apart was. other (suc k) z (λ (q : suc k ≡ suc i). apart (omega (arith, q))) was)
      (λ k z there. each (suc k) z there) k y got

  -- each item of the same list
  pub each_same : (Is : ℕ → A → Type 0) (xs ys : List A) → ys ≡ xs → Each Is xs → Each Is ys
  each_same Is xs ys same each = subst (Each Is) (sym same) each

  -- each item of the same list, of which something else is known
  pub each_more : (Is Was : ℕ → A → Type 0) (xs ys : List A) → ys ≡ xs
      → ((k : ℕ) (x : A) → Was k x → Is k x) → Each Was xs → Each Is ys
  each_more Is Was xs ys same more each =
      each_same Is xs ys same (λ k x got. more k x (each k x got))

  -- what is at an index within a list
  pub item_at : (xs : List A) (k : ℕ) → k < length xs → (x : A) × (slice_get xs k ≡ Some x)
  item_at [] k less = absurd (omega (arith, less))
  item_at (x ∷ xs) zero less = (x, refl)
  item_at (x ∷ xs) (suc k) less = item_at xs k (omega (arith, less))

  -- what is at an index is the item that was read there
  pub one_there : (xs : List A) (k : ℕ) (x y : A) → slice_get xs k ≡ Some x
      → slice_get xs k ≡ Some y → x ≡ y
  one_there xs k x y first second = some-is x y (sym first ∙ second)

-- ---- the actors of a seat

-- an actor stands at one index
pub same_index : (about : BoardSizes) (number j k : ℕ)
    → actor_at about number j ≡ actor_at about number k → j ≡ k
same_index about number j k same = by_count (max 1 (about.seats - 1)) (omega arith) same
  where
    by_count : (n : ℕ) → 0 < n → number + n * j ≡ number + n * k → j ≡ k
    by_count n some e =
        let first = mul_comm j n in
        let second = mul_comm k n in
        let up : j * n ≤ k * n = omega (arith, e, first, second) in
        let down : k * n ≤ j * n = omega (arith, e, first, second) in
        le_antisymm (le_of_mul-le-mul_right up some) (le_of_mul-le-mul_right down some)

-- the actors at two indices differ
pub actors_differ : (about : BoardSizes) (number i k a b : ℕ) → a ≡ actor_at about number i
    → b ≡ actor_at about number k → k ≢ i → (a == b) ≡ false
actors_differ about number i k a b first second apart = by_test (eqb_tells a b)
  where
    by_test : (((a == b) ≡ true) × (a ≡ b)) ⊎ (((a == b) ≡ false) × (a ≢ b)) → (a == b) ≡ false
    by_test (inl (t, same)) =
        absurd (apart (sym (same_index about number i k (sym first ∙ (same ∙ second)))))
    by_test (inr (t, differ)) = t

-- an actor is none at an index where another one is
pub differs : (a b : ℕ) → b ≢ a → (a == b) ≡ false
differs a b apart = by_test (eqb_tells a b)
  where
    by_test : (((a == b) ≡ true) × (a ≡ b)) ⊎ (((a == b) ≡ false) × (a ≢ b)) → (a == b) ≡ false
    by_test (inl (t, same)) = absurd (apart (sym same))
    by_test (inr (t, differ)) = t

module _ {A : Type 0} where
  -- turns, marks or notes of a seat's actors, with at most one more
  pub turns_of_ones : (about : BoardSizes) (number count a k : ℕ) (turns more : List (StepBy A))
      → k < count → a ≡ actor_at about number k → TurnsGrow a turns more
      → All (IsTurnOfOne about number count) turns → All (IsTurnOfOne about number count) more
  turns_of_ones about number count a k turns more within own (inl same) all =
      subst (All (IsTurnOfOne about number count)) (sym same) all
  turns_of_ones about number count a k turns more within own (inr (u, grown)) all =
      subst (All (IsTurnOfOne about number count)) (sym grown)
      (All-cons (IsTurnOfOne about number count) (step_by a u) turns (k, within, own) all)

  -- the same turns, marks or notes of a seat with the same number and as many actors
  pub turns_stay : (about : BoardSizes) (number before count size : ℕ) (turns : List (StepBy A))
      → number ≡ before → count ≡ size → All (IsTurnOfOne about before size) turns
      → All (IsTurnOfOne about number count) turns
  turns_stay about number before count size turns same many all =
      subst (λ (z : ℕ × ℕ). All (IsTurnOfOne about z.0 z.1) turns) (λ j. (sym same j, sym many j))
      all

  -- what was set is there
  pub set_there : (xs : List A) (i : ℕ) (x e : A) → slice_get xs i ≡ Some x
      → slice_get (slice_set xs i e) i ≡ Some e
  set_there [] i x e there = none-some x there
  set_there (w ∷ xs) zero x e there = refl
  set_there (w ∷ xs) (suc i) x e there = set_there xs i x e there
