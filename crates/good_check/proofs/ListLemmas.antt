-- What holds of all items of a list up to a place.
use Rattle.std.proofs.Common.{ℕ, zero, suc, ◌≡◌, ◌<◌, ◌≤◌, ◌+◌, List, [], ◌∷◌, length, take, get_or}
use Rattle.std.proofs.Common.{Bool, true, false, ◌||◌, refl, ap, ◌∙◌, sym, subst, arith}
use Rattle.std.specs.List.{All, list_any}
use Rattle.std.proofs.lemmas.List.{take_all, take_more}
use Rattle.std.proofs.lemmas.List.Elements.{All-append}
use Rattle.std.proofs.lemmas.List.Folds.{list_any-append}

single : {A : Type 0} (P : A → Type 0) (y : A) → P y → All P (y ∷ [])
single P y p zero d l = p
single P y p (suc k) d l = absurd (omega (arith, l))

-- one item more
pub all-next : {A : Type 0} (P : A → Type 0) (xs ys : List A) (i : ℕ) (x : A) → xs ≡ ys
    → i < length xs → x ≡ get_or xs i x → P x → All P (take i ys) → All P (take (i + 1) ys)
all-next P xs ys i x same l is p h = subst (λ zs. All P (take i zs) → All P (take (i + 1) zs)) same
    (λ h. subst (All P) (sym (take_more xs i x l))
    (All-append P (take i xs) (get_or xs i x ∷ []) h (single P (get_or xs i x) (subst P is p)))) h

-- all of them
pub all-done : {A : Type 0} (P : A → Type 0) (xs ys : List A) (i : ℕ) → xs ≡ ys → length xs ≤ i
    → All P (take i ys) → All P ys
all-done P xs ys i same l h =
    subst (λ zs. All P (take i zs) → All P zs) same (λ h. subst (All P) (take_all i xs l) h) h

-- the item at a place
pub all-here : {A : Type 0} (P : A → Type 0) (xs ys : List A) (i : ℕ) (x : A) → xs ≡ ys
    → i < length xs → x ≡ get_or xs i x → All P ys → P x
all-here P xs ys i x same l is h =
    subst (λ zs. All P zs → P x) same (λ h. subst P (sym is) (h i x l)) h

or-none : (b : Bool) → (b || false) ≡ b
or-none true = refl
or-none false = refl

-- one item more, if some item is wanted
pub any-next : {A : Type 0} (p : A → Bool) (xs ys : List A) (i : ℕ) (x : A) (b : Bool) → xs ≡ ys
    → i < length xs → x ≡ get_or xs i x → b ≡ list_any p (take i ys)
    → (b || p x) ≡ list_any p (take (i + 1) ys)
any-next p xs ys i x b same l is h =
    subst (λ zs. b ≡ list_any p (take i zs) → (b || p x) ≡ list_any p (take (i + 1) zs)) same
    (λ h. ap (λ c. c || p x) h ∙ ap (λ y. list_any p (take i xs) || p y) is
    ∙ ap (λ c. list_any p (take i xs) || c) (sym (or-none (p (get_or xs i x))))
    ∙ sym (list_any-append p (take i xs) (get_or xs i x ∷ []))
    ∙ sym (ap (list_any p) (take_more xs i x l))) h
