-- Two lists whose pairs are in order: one is a prefix of the other.
use Rattle.std.proofs.Common.{ℕ, ◌<◌, ◌≡◌, ◌≢◌, List, [], ◌∷◌, length, refl, ap, ◌∙◌, sym, arith}
use Rattle.std.proofs.Common.{suc, zero, inl, inr, get_or}
use Rattle.std.proofs.lemmas.Bool.{cases_eq}
use Rattle.steer_base.specs.Orders.{IsPrefix}
use Rattle.hop_model.specs.Pairs.{Pairwise}

later : (xs : List ℕ) (y x i : ℕ) → i < length (x ∷ xs) → get_or (x ∷ xs) i 0 ≡ y → x ≢ y → (k : ℕ)
    × (k < length xs) × (get_or xs k 0 ≡ y)
later xs y x zero in' e ne = absurd (ne e)
later xs y x (suc i) in' e ne = (i, omega arith, e)

back : (xs ys : List ℕ) (y i j l : ℕ) → l < suc j → get_or (y ∷ ys) l 0 ≡ get_or xs i 0
    → y ≢ get_or xs i 0 → (k : ℕ) × (k < j) × (get_or ys k 0 ≡ get_or xs i 0)
back xs ys y i j zero lt e ne = absurd (ne e)
back xs ys y i j (suc l) lt e ne = (l, omega arith, e)

pub prefix_from_pairs : (xs ys : List ℕ) → Pairwise xs ys → IsPrefix ys xs
prefix_from_pairs xs [] h = (xs, refl)
prefix_from_pairs [] (y ∷ ys) h = let f = h.from 0 (omega arith) in
    let lt = f.1 in absurd (omega arith)
prefix_from_pairs (x ∷ xs) (y ∷ ys) h =
    let f = h.from 0 (omega arith) in
    let first : f.0 ≡ 0 = elim (cases_eq f.0 0) [
      | inl e ↦ e
      | inr ne ↦ absurd (let g = h.earlier 0 f.0 0 (omega arith) f.1 (omega arith) f.2 in
          let lt = g.1 in omega arith)
    ] in
    let same : x ≡ y = rw first at f.2 in
    let rest = prefix_from_pairs xs ys (record {
      once = λ i j a b e. (let g : suc i ≡ suc j = h.once (suc i) (suc j) (omega arith)
          (omega arith) e in omega arith);
      once_there = λ i j a b e. (let g : suc i ≡ suc j = h.once_there (suc i) (suc j) (omega arith)
          (omega arith) e in omega arith);
      from = λ j a. (
          let g = h.from (suc j) (omega arith) in let lt = g.1 in
          later xs (get_or ys j 0) x g.0 g.1 g.2 (λ e. let n : suc j ≡ 0 = h.once_there (suc j) 0
          (omega arith) (omega arith) (sym e ∙ same) in omega arith));
      earlier = λ i k j ik ka ja e. (
          let g = h.earlier (suc i) (suc k) (suc j) (omega arith) (omega arith) (omega arith) e in
          let lt = g.1 in
          back xs ys y i j g.0 g.1 g.2 (λ e2. let n : suc i ≡ 0 = h.once (suc i) 0 (omega arith)
          (omega arith) (sym e2 ∙ sym same) in omega arith));
    }) in
    (rest.0, ap (λ l. y ∷ l) rest.1 ∙ ap (λ z. z ∷ xs) (sym same))
