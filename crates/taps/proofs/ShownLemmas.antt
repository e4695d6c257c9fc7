-- The lines that a tap is shown.
use Rattle.std.proofs.Common.{◌≡◌, ℕ, zero, suc, ◌+◌, ◌-◌, ◌<◌, ◌≤◌, List, [], ◌∷◌, length}
use Rattle.std.proofs.Common.{◌++◌, map, take, drop, get_or, slice_set, sym, ap, ◌∙◌, refl, arith}
use Rattle.std.proofs.Math.Seq.{drop-cons}
use Rattle.std.proofs.lemmas.List.{drop_all, length-append}
use Rattle.std.specs.List.{enumerate_from}

-- the next line and those after it
pub next_shown : {A : Type 0} (xs : List A) (i count : ℕ) (x : A) → i < count → i < length xs
    → x ≡ get_or xs i x
    → take (count - i) (drop i xs) ≡ x ∷ take (count - (i + 1)) (drop (i + 1) xs)
next_shown xs i count x below there e =
    let left : count - i ≡ suc (count - (i + 1)) = omega arith in
    let next : suc i ≡ i + 1 = omega arith in
    ap (λ n. take n (drop i xs)) left
    ∙ ap (λ ys. take (suc (count - (i + 1))) ys) (drop-cons xs i x there)
    ∙ ap (λ y. y ∷ take (count - (i + 1)) (drop (suc i) xs)) (sym e)
    ∙ ap (λ n. x ∷ take (count - (i + 1)) (drop n xs)) next

-- the first `n` items under one function, those after them under another
pub partly : {A B : Type 0} → (A → B) → (A → B) → ℕ → List A → List B
partly new old zero xs = map old xs
partly new old (suc n) [] = []
partly new old (suc n) (x ∷ xs) = new x ∷ partly new old n xs

-- no item under the one function
pub partly-none : {A B : Type 0} (new old : A → B) (xs : List A) → partly new old 0 xs ≡ map old xs
unfolding partly
partly-none new old xs = refl

-- all items under the one function
partly-length : {A B : Type 0} (new old : A → B) (xs : List A)
    → partly new old (length xs) xs ≡ map new xs
unfolding partly
partly-length new old [] = refl
partly-length new old (x ∷ xs) = ap (λ ys. new x ∷ ys) (partly-length new old xs)

pub partly-all : {A B : Type 0} (new old : A → B) (n : ℕ) (xs : List A) → n ≡ length xs
    → partly new old n xs ≡ map new xs
partly-all new old n xs e = ap (λ m. partly new old m xs) e ∙ partly-length new old xs

-- an item that comes to the same under the other function
partly-set : {A B : Type 0} (new old : A → B) (i : ℕ) (xs : List A) (x y : A) → i < length xs
    → new y ≡ old (get_or xs i x)
    → partly new old (suc i) (slice_set xs i y) ≡ partly new old i xs
unfolding partly
partly-set new old i [] x y there e = absurd (omega (arith, there))
partly-set new old zero (z ∷ xs) x y there e = ap (λ b. b ∷ map old xs) e
partly-set new old (suc i) (z ∷ xs) x y there e =
    ap (λ ys. new z ∷ ys) (partly-set new old i xs x y (omega (arith, there)) e)

pub partly-next : {A B : Type 0} (new old : A → B) (i : ℕ) (xs : List A) (x y : A) → i < length xs
    → new y ≡ old (get_or xs i x)
    → partly new old (i + 1) (slice_set xs i y) ≡ partly new old i xs
partly-next new old i xs x y there e =
    let next : i + 1 ≡ suc i = omega arith in
    ap (λ n. partly new old n (slice_set xs i y)) next ∙ partly-set new old i xs x y there e

-- after the last line none is left
take_none : {A : Type 0} (n : ℕ) → take {A = A} n [] ≡ []
take_none zero = refl
take_none (suc n) = refl

pub none_left : {A : Type 0} (xs : List A) (i count : ℕ) → length xs ≤ i
    → take (count - i) (drop i xs) ≡ []
none_left xs i count past = ap (take (count - i)) (drop_all i xs past) ∙ take_none (count - i)

-- one more item done is one fewer to do
map-pushed : {A C : Type 0} (f : A → C) (done : List A) (one : A) (text : C) (texts : List C)
    → f one ≡ text → map f (done ++ one ∷ []) ++ texts ≡ map f done ++ text ∷ texts
map-pushed f [] one text texts e = ap (λ t. t ∷ texts) e
map-pushed f (x ∷ xs) one text texts e = ap (λ ts. f x ∷ ts) (map-pushed f xs one text texts e)

pub one_more : {A B C : Type 0} (f : A → C) (p : ℕ × B → C) (done now : List A) (one : A)
    (next : B) (before rest : List B) (texts : List C) → now ≡ done ++ one ∷ []
    → before ≡ next ∷ rest
    → f one ≡ p (length done, next)
    → map f done ++ map p (enumerate_from (length done) before) ≡ texts
    → map f now ++ map p (enumerate_from (length now) rest) ≡ texts
one_more f p done now one next before rest texts pushed taken e all =
    ap (λ items. map f items ++ map p (enumerate_from (length items) rest)) pushed
    ∙ ap (λ n. map f (done ++ one ∷ []) ++ map p (enumerate_from n rest))
    (length-append done (one ∷ []))
    ∙ map-pushed f done one (p (length done, next))
    (map p (enumerate_from (length done + 1) rest)) e
    ∙ ap (λ items. map f done ++ map p (enumerate_from (length done) items)) (sym taken)
    ∙ all
