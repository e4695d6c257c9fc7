-- Lists whose items are so at their indices.
use Rattle.workers.proofs.Names.{◌≡◌, ℕ, zero, suc, List, [], ◌∷◌, ◌++◌, length, refl, sym, subst}
use Rattle.workers.proofs.Names.{none-some, some-is, Each}

module _ {A : Type 0} where
  pub each_none : (Is : ℕ → A → Type 0) → Each Is []
  each_none Is k x got = none-some x got

  -- one item more
  pub each_end : (Is : ℕ → A → Type 0) (xs : List A) (n : ℕ) (x : A) → n ≡ length xs
      → Each Is xs → Is n x → Each Is (xs ++ x ∷ [])
  each_end Is [] n x here each is zero y got =
      subst (λ m. Is m y) here (subst (Is n) (some-is x y got) is)
  each_end Is [] n x here each is (suc k) y got = none-some y got
  each_end Is (z ∷ xs) n x here each is zero y got = each 0 y got
  each_end Is (z ∷ xs) n x here each is (suc k) y got =
      each_end (λ m w. Is (suc m) w) xs (length xs) x refl (λ m w there. each (suc m) w there)
      (subst (λ m. Is m x) here is) k y got

  pub each_of_none : (Is : ℕ → A → Type 0) (xs : List A) → xs ≡ [] → Each Is xs
  each_of_none Is xs none = subst (Each Is) (sym none) (each_none Is)
