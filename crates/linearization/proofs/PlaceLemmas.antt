-- Where the hand of each seat lies: at which view, and at which place of it.
use Rattle.std.proofs.Common.{◌≡◌, ◌≢◌, ℕ, suc, ◌+◌, ◌-◌, ◌==◌, if◌then◌else◌, refl, ap, ◌∙◌, arith}
use Rattle.linearization.proofs.ListLemmas.{if_same, if_other}

-- the first hand of the view id, which is the seat q's, goes to the new view n
pub split_place : ℕ → ℕ → ℕ → (ℕ → ℕ × ℕ) → ℕ → ℕ × ℕ
split_place n id q place p = if p == q then (n, 0) else
    (if (place p).0 == id then (id, (place p).1 - 1) else place p)

pub split_left : (n id q : ℕ) (place : ℕ → ℕ × ℕ) (p m : ℕ) → p ≢ q → place p ≡ (id, suc m)
    → split_place n id q place p ≡ (id, m)
unfolding split_place
split_left n id q place p m ne is = if_other p q (n, 0) _ ne
    ∙ (ap (λ (z : ℕ × ℕ). if z.0 == id then (id, z.1 - 1) else z) is
    ∙ (if_same id id (id, suc m - 1) (id, suc m) refl ∙ ap (λ (z : ℕ). (id, z)) (omega arith)))

pub split_else : (n id q : ℕ) (place : ℕ → ℕ × ℕ) (p j m : ℕ) → p ≢ q → place p ≡ (j, m) → j ≢ id
    → split_place n id q place p ≡ (j, m)
unfolding split_place
split_else n id q place p j m ne is other = if_other p q (n, 0) _ ne
    ∙ (ap (λ (z : ℕ × ℕ). if z.0 == id then (id, z.1 - 1) else z) is ∙ if_other j id (id, m - 1)
    (j, m) other)

pub split_new : (n id q : ℕ) (place : ℕ → ℕ × ℕ) → split_place n id q place q ≡ (n, 0)
unfolding split_place
split_new n id q place = if_same q q (n, 0) _ refl

-- all hands of the view other come before the hands of the view id
pub join_place : ℕ → ℕ → ℕ → (ℕ → ℕ × ℕ) → ℕ → ℕ × ℕ
join_place id other len place p = if (place p).0 == other then (id, (place p).1) else
    (if (place p).0 == id then (id, (place p).1 + len) else place p)

pub join_came : (id other len : ℕ) (place : ℕ → ℕ × ℕ) (p m : ℕ) → place p ≡ (other, m)
    → join_place id other len place p ≡ (id, m)
unfolding join_place
join_came id other len place p m is = ap (λ (z : ℕ × ℕ). if z.0 == other then (id, z.1) else
    (if z.0 == id then (id, z.1 + len) else z)) is ∙ if_same other other (id, m) _ refl

pub join_was : (id other len : ℕ) (place : ℕ → ℕ × ℕ) (p m : ℕ) → id ≢ other → place p ≡ (id, m)
    → join_place id other len place p ≡ (id, m + len)
unfolding join_place
join_was id other len place p m ne is = ap (λ (z : ℕ × ℕ). if z.0 == other then (id, z.1) else
    (if z.0 == id then (id, z.1 + len) else z)) is ∙ (if_other id other (id, m) _ ne ∙ if_same id id
    (id, m + len) (id, m) refl)

pub join_else : (id other len : ℕ) (place : ℕ → ℕ × ℕ) (p j m : ℕ) → j ≢ other → j ≢ id
    → place p ≡ (j, m) → join_place id other len place p ≡ (j, m)
unfolding join_place
join_else id other len place p j m ne ne' is =
    ap (λ (z : ℕ × ℕ). if z.0 == other then (id, z.1) else
    (if z.0 == id then (id, z.1 + len) else z)) is ∙ (if_other j other (id, m) _ ne ∙ if_other j id
    (id, m + len) (j, m) ne')
