-- Filtered lists of packets, lists that are joined, and beginnings of lists.
use Rattle.std.proofs.Common.{ℕ, zero, suc, ◌≡◌, ◌<◌, ◌++◌, Bool, true, false, List, [], ◌∷◌}
use Rattle.std.proofs.Common.{Option, Some, None, length, map, refl, ap, ◌∙◌, sym, arith, inl, inr}
use Rattle.std.proofs.Common.{get_or, subst, append_assoc, append-nil, take, ◌⊎◌}
use Rattle.std.specs.Prelude.{◌&&◌, ◌==◌, ◌+◌, filter}
use Rattle.std.specs.List.{All, concat}
use Rattle.std.specs.Option.{ForSome, is_some}
use Rattle.std.proofs.lemmas.Bool.{cases_Bool, cases_eq, eq-eqb, eqb-true, ne_eqb}
use Rattle.std.proofs.lemmas.List.{get_or_default}
use Rattle.std.proofs.lemmas.List.Elements.{All-append, filter-append}
use Rattle.steer_base.specs.Entries.{is_class, place_in}
use Rattle.steer_base.specs.Orders.{IsPrefix}
use Rattle.history.specs.Finding.{is_in, Once}
use Rattle.history.specs.Lists.{list_at}
use Rattle.history.proofs.BoundLemmas.{in-index}
use Rattle.history.proofs.FindingLemmas.{is_in-here, is_in-past}
use Rattle.history.proofs.OwnLemmas.{none-unless, not-true}
use Rattle.history.proofs.SamePlaces.{Once-cons, Once-head, Once-none, Once-tail, place-index}
use Rattle.rule_check.specs.Chains.{in_class, is_in_class}
use Rattle.good_check.specs.Order.{LeftInOrder}

-- members
pub in-more : (y x : ℕ) (xs : List ℕ) → is_in y xs ≡ true → is_in y (x ∷ xs) ≡ true
in-more y x xs i = elim (cases_eq y x) [
  | inl e ↦ is_in-here y x xs e
  | inr ne ↦ is_in-past y x xs ne ∙ i
]

pub all-in : (P : ℕ → Type 0) (xs : List ℕ) → ((y : ℕ) → is_in y xs ≡ true → P y) → All P xs
all-in P xs h k d l =
    subst P (get_or_default xs k 0 d l) (h (get_or xs k 0) (in-index xs k l))

-- two tests that agree on the members of a list keep the same ones
pub filter-agree : (p q : ℕ → Bool) (xs : List ℕ)
    → ((y : ℕ) → is_in y xs ≡ true → p y ≡ q y) → filter p xs ≡ filter q xs
filter-agree p q [] h = refl
filter-agree p q (x ∷ xs) h =
    rw (h x (is_in-here x x xs refl), filter-agree p q xs (λ y i. h y (in-more y x xs i))) refl

pub filter-both : (p q : ℕ → Bool) (xs : List ℕ)
    → filter p (filter q xs) ≡ filter (λ y. q y && p y) xs
filter-both p q [] = refl
filter-both p q (x ∷ xs) = elim (cases_Bool (q x)) [
  | inl t ↦ rw (t, filter-both p q xs) refl
  | inr f ↦ rw (f) (filter-both p q xs)
]

-- what a filter keeps, if it keeps anything
pub filter-some : (p : ℕ → Bool) (xs : List ℕ)
    → (filter p xs ≡ []) ⊎ ((y : ℕ) × (is_in y xs ≡ true) × (p y ≡ true))
filter-some p [] = inl refl
filter-some p (x ∷ xs) = elim (cases_Bool (p x)) [
  | inl t ↦ inr (x, is_in-here x x xs refl, t)
  | inr f ↦ elim (filter-some p xs) [
    | inl n ↦ inl (rw (f) n)
    | inr w ↦ inr (w.0, in-more w.0 x xs w.1, w.2)
  ]
]

pub filter-none : (p : ℕ → Bool) (xs : List ℕ) → ((y : ℕ) → is_in y xs ≡ true → p y ≡ true → ⊥)
    → filter p xs ≡ []
filter-none p xs h = elim (filter-some p xs) [
  | inl n ↦ n
  | inr w ↦ absurd (h w.0 w.1 w.2)
]

-- whether a filtered list has a packet
pub in-filter : (p : ℕ → Bool) (y : ℕ) (xs : List ℕ)
    → is_in y (filter p xs) ≡ (p y && is_in y xs)
in-filter p y [] = elim (cases_Bool (p y)) [ inl t ↦ rw (t) refl | inr f ↦ rw (f) refl ]
in-filter p y (x ∷ xs) = elim (cases_Bool (p x)) [
  | inl t ↦ elim (cases_eq y x) [
    | inl e ↦
        let own : p y ≡ true = ap p e ∙ t in
        rw (t, own) (is_in-here y x (filter p xs) e ∙ sym (is_in-here y x xs e))
    | inr ne ↦
        rw (t) (is_in-past y x (filter p xs) ne ∙ in-filter p y xs
        ∙ ap (λ b. p y && b) (sym (is_in-past y x xs ne)))
  ]
  | inr f ↦ elim (cases_eq y x) [
    | inl e ↦
        let own : p y ≡ false = ap p e ∙ f in
        rw (f) (in-filter p y xs ∙ ap (λ b. b && is_in y xs) own
        ∙ ap (λ b. b && is_in y (x ∷ xs)) (sym own))
    | inr ne ↦
        rw (f) (in-filter p y xs ∙ ap (λ b. p y && b) (sym (is_in-past y x xs ne)))
  ]
]

pub once-filter : (p : ℕ → Bool) (xs : List ℕ) → Once xs → Once (filter p xs)
once-filter p [] o = o
once-filter p (x ∷ xs) o = elim (cases_Bool (p x)) [
  | inl t ↦
      let lacks : is_in x (filter p xs) ≡ false =
      in-filter p x xs ∙ ap (λ n. p x && is_some n) (Once-head x xs o)
      ∙ ap (λ b. b && false) t in
      subst Once (the-first p x xs t) (Once-cons x (filter p xs)
      (none-unless (place_in x (filter p xs)) lacks) (once-filter p xs (Once-tail x xs o)))
  | inr f ↦ subst Once (not-the-first p x xs f) (once-filter p xs (Once-tail x xs o))
]
  where
    the-first : (p : ℕ → Bool) (x : ℕ) (xs : List ℕ) → p x ≡ true
        → x ∷ filter p xs ≡ filter p (x ∷ xs)
    the-first p x xs t = rw (t) refl

    not-the-first : (p : ℕ → Bool) (x : ℕ) (xs : List ℕ) → p x ≡ false
        → filter p xs ≡ filter p (x ∷ xs)
    not-the-first p x xs f = rw (f) refl

-- the same for a list of other items, which are read by place
pub filter-alike : {A : Type 0} (p q : A → Bool) (d : A) (xs : List A)
    → ((k : ℕ) → k < length xs → p (get_or xs k d) ≡ q (get_or xs k d))
    → filter p xs ≡ filter q xs
filter-alike p q d [] h = refl
filter-alike p q d (x ∷ xs) h =
    let first : p x ≡ q x = h 0 (omega arith) in
    rw (first, filter-alike p q d xs (λ k l. h (suc k) (omega (arith, l)))) refl

pub filter-mapped : {A : Type 0} (p : ℕ → Bool) (f : A → ℕ) (xs : List A)
    → filter p (map f xs) ≡ map f (filter (λ a. p (f a)) xs)
filter-mapped p f [] = refl
filter-mapped p f (x ∷ xs) = elim (cases_Bool (p (f x))) [
  | inl t ↦ rw (t) (ap (λ ys. f x ∷ ys) (filter-mapped p f xs))
  | inr n ↦ rw (n) (filter-mapped p f xs)
]

-- a test that only packets of one list pass
filter-nowhere : (p : ℕ → Bool) (lists : List (List ℕ))
    → ((b y : ℕ) → is_in y (list_at lists b) ≡ true → p y ≡ true → ⊥)
    → filter p (concat lists) ≡ []
filter-nowhere p [] h = refl
filter-nowhere p (xs ∷ rest) h =
    filter-append p xs (concat rest)
    ∙ ap (λ ys. ys ++ filter p (concat rest)) (filter-none p xs (λ y i t. h 0 y i t))
    ∙ filter-nowhere p rest (λ b y i t. h (suc b) y i t)

pub filter-concat : (p : ℕ → Bool) (lists : List (List ℕ)) (a : ℕ)
    → ((b y : ℕ) → is_in y (list_at lists b) ≡ true → p y ≡ true → b ≡ a)
    → filter p (concat lists) ≡ filter p (list_at lists a)
filter-concat p [] a h = refl
filter-concat p (xs ∷ rest) zero h =
    filter-append p xs (concat rest)
    ∙ ap (λ ys. filter p xs ++ ys) (filter-nowhere p rest (λ b y i t.
    let e : suc b ≡ 0 = h (suc b) y i t in omega (arith, e)))
    ∙ append-nil (filter p xs)
filter-concat p (xs ∷ rest) (suc a) h =
    filter-append p xs (concat rest)
    ∙ ap (λ ys. ys ++ filter p (concat rest)) (filter-none p xs (λ y i t.
    let e : 0 ≡ suc a = h 0 y i t in omega (arith, e)))
    ∙ filter-concat p rest a (λ b y i t.
    let e : suc b ≡ suc a = h (suc b) y i t in omega (arith, e))

-- one list more
concat-suc : (lists : List (List ℕ)) (i : ℕ) → i < length lists
    → concat (take (suc i) lists) ≡ concat (take i lists) ++ list_at lists i
concat-suc [] i l = absurd (omega (arith, l))
concat-suc (xs ∷ rest) zero l = append-nil xs
concat-suc (xs ∷ rest) (suc i) l =
    ap (λ ys. xs ++ ys) (concat-suc rest i (omega (arith, l)))
    ∙ sym (append_assoc xs (concat (take i rest)) (list_at rest i))

pub concat-more : (lists : List (List ℕ)) (i : ℕ) → i < length lists
    → concat (take (i + 1) lists) ≡ concat (take i lists) ++ list_at lists i
concat-more lists i l =
    let n : i + 1 ≡ suc i = omega arith in
    ap (λ n. concat (take n lists)) n ∙ concat-suc lists i l

map-suc : {A B : Type 0} (f : A → B) (xs : List A) (i : ℕ) (d : A) → i < length xs
    → map f (take (suc i) xs) ≡ map f (take i xs) ++ f (get_or xs i d) ∷ []
map-suc f [] i d l = absurd (omega (arith, l))
map-suc f (x ∷ xs) zero d l = refl
map-suc f (x ∷ xs) (suc i) d l =
    ap (λ ys. f x ∷ ys) (map-suc f xs i d (omega (arith, l)))

pub map-more : {A B : Type 0} (f : A → B) (xs : List A) (i : ℕ) (d : A) → i < length xs
    → map f (take (i + 1) xs) ≡ map f (take i xs) ++ f (get_or xs i d) ∷ []
map-more f xs i d l =
    let n : i + 1 ≡ suc i = omega arith in
    ap (λ n. map f (take n xs)) n ∙ map-suc f xs i d l

concat-append : (xs ys : List (List ℕ)) → concat (xs ++ ys) ≡ concat xs ++ concat ys
concat-append [] ys = refl
concat-append (x ∷ xs) ys =
    ap (λ l. x ++ l) (concat-append xs ys) ∙ sym (append_assoc x (concat xs) (concat ys))

pub replies-more : {A : Type 0} (f : A → List ℕ) (xs : List A) (i : ℕ) (d : A) → i < length xs
    → concat (map f (take (i + 1) xs)) ≡ concat (map f (take i xs)) ++ f (get_or xs i d)
replies-more f xs i d l =
    ap concat (map-more f xs i d l) ∙ concat-append (map f (take i xs)) (f (get_or xs i d) ∷ [])
    ∙ ap (λ ys. concat (map f (take i xs)) ++ ys) (append-nil (f (get_or xs i d)))

-- what holds of all packets of each list holds of those of all lists
pub all-concat : (P : ℕ → Type 0) (lists : List (List ℕ))
    → ((b : ℕ) → All P (list_at lists b)) → All P (concat lists)
all-concat P [] h = λ k d l. absurd (omega (arith, l))
all-concat P (xs ∷ rest) h =
    All-append P xs (concat rest) (h 0) (all-concat P rest (λ b. h (suc b)))

in-append : (y : ℕ) (xs ys : List ℕ) → is_in y (xs ++ ys) ≡ true
    → (is_in y xs ≡ true) ⊎ (is_in y ys ≡ true)
in-append y [] ys i = inr i
in-append y (x ∷ xs) ys i = elim (cases_eq y x) [
  | inl e ↦ inl (is_in-here y x xs e)
  | inr ne ↦ elim (in-append y xs ys (sym (is_in-past y x (xs ++ ys) ne) ∙ i)) [
    | inl l ↦ inl (is_in-past y x xs ne ∙ l)
    | inr r ↦ inr r
  ]
]

pub in-concat : (y : ℕ) (lists : List (List ℕ)) → is_in y (concat lists) ≡ true
    → (b : ℕ) × (is_in y (list_at lists b) ≡ true)
in-concat y [] i = absurd (cc)
in-concat y (xs ∷ rest) i = elim (in-append y xs (concat rest) i) [
  | inl l ↦ (0, l)
  | inr r ↦ let w = in-concat y rest r in (suc w.0, w.1)
]

once-append : (xs ys : List ℕ) → Once xs → Once ys
    → ((y : ℕ) → is_in y xs ≡ true → is_in y ys ≡ true → ⊥) → Once (xs ++ ys)
once-append [] ys o p h = p
once-append (x ∷ xs) ys o p h =
    let lacks : is_in x (xs ++ ys) ≡ false = not-true (is_in x (xs ++ ys)) (λ i.
    elim (in-append x xs ys i) [
      | inl l ↦ let f : is_in x xs ≡ false = ap is_some (Once-head x xs o) in cc
      | inr r ↦ h x (is_in-here x x xs refl) r
    ]) in
    Once-cons x (xs ++ ys) (none-unless (place_in x (xs ++ ys)) lacks)
    (once-append xs ys (Once-tail x xs o) p (λ y i j. h y (in-more y x xs i) j))

-- lists without repeats, each with packets of its own number alone
pub once-concat : (own : ℕ → ℕ) (n : ℕ) (lists : List (List ℕ))
    → ((b : ℕ) → Once (list_at lists b))
    → ((b y : ℕ) → is_in y (list_at lists b) ≡ true → own y ≡ n + b) → Once (concat lists)
once-concat own n [] once h = Once-none
once-concat own n (xs ∷ rest) once h =
    once-append xs (concat rest) (once 0)
    (once-concat own (n + 1) rest (λ b. once (suc b))
    (λ b y i. let e : own y ≡ n + suc b = h (suc b) y i in omega (arith, e)))
    (λ y i j. let w = in-concat y rest j in
    let here : own y ≡ n + 0 = h 0 y i in
    let there : own y ≡ n + suc w.0 = h (suc w.0) y w.1 in
    omega (arith, here, there))

-- beginnings
pub prefix-none : (xs ys : List ℕ) → xs ≡ [] → IsPrefix xs ys
prefix-none xs ys e = (ys, ap (λ l. l ++ ys) e)

pub prefix-same : (xs ys us vs : List ℕ) → xs ≡ us → ys ≡ vs → IsPrefix xs ys → IsPrefix us vs
prefix-same xs ys us vs e f p = (p.0, ap (λ l. l ++ p.0) (sym e) ∙ p.1 ∙ f)

-- equal numbers, asked the other way round
pub eqb-turned : (a b : ℕ) → (a == b) ≡ (b == a)
eqb-turned a b = elim (cases_eq a b) [
  | inl e ↦ eq-eqb a b e ∙ sym (eq-eqb b a (sym e))
  | inr ne ↦ ne_eqb a b ne ∙ sym (ne_eqb b a (λ e. ne (sym e)))
]

-- a class beyond all classes has no packets
class-below : (count k : ℕ) (o : Option ℕ) → ForSome o (λ j. j < count) → is_class k o ≡ true
    → k < count
class-below count k None b t = absurd (cc)
class-below count k (Some j) b t =
    let e : k ≡ j = eqb-true k j t in let l : j < count = b j refl in omega (arith, e, l)

pub class-beyond : (classes : List (Option ℕ)) (count k : ℕ) (xs : List ℕ)
    → All (λ o. ForSome o (λ j. j < count)) classes → All (λ x. x < length classes) xs
    → (k < count → ⊥) → in_class classes k xs ≡ []
class-beyond classes count k xs below within beyond =
    filter-none (is_in_class classes k) xs (λ y i t.
    let w = place-index y xs i in
    let l : y < length classes = subst (λ z. z < length classes) w.2 (within w.0 0 w.1) in
    beyond (class-below count k (get_or classes y None) (below y None l) t))

-- the same classes and the same packets
pub within-same : (classes cs : List (Option ℕ)) (xs ys : List ℕ) → classes ≡ cs → xs ≡ ys
    → All (λ x. x < length cs) ys → All (λ x. x < length classes) xs
within-same classes cs xs ys e f h =
    subst (λ zs. All (λ x. x < length classes) zs) (sym f)
    (subst (λ ds. All (λ x. x < length ds) ys) (sym e) h)

pub order-same : (classes cs : List (Option ℕ)) (came us left vs : List ℕ) → classes ≡ cs
    → came ≡ us → left ≡ vs → LeftInOrder classes came left → LeftInOrder cs us vs
order-same classes cs came us left vs e f g h =
    subst (λ zs. LeftInOrder cs us zs) g
    (subst (λ zs. LeftInOrder cs zs left) f
    (subst (λ ds. LeftInOrder ds came left) e h))
