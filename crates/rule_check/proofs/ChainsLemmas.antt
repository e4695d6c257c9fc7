-- Chains of packets, as packets are put before them and taken out of them.
use Rattle.std.proofs.Common.{ℕ, zero, suc, ◌≡◌, ◌≢◌, ◌<◌, ◌+◌, ◌++◌, true, false}
use Rattle.std.proofs.Common.{List, []}
use Rattle.std.proofs.Common.{◌∷◌, Option, Some, None, drop, length, set, take, refl, ap, ◌∙◌}
use Rattle.std.proofs.Common.{sym, arith}
use Rattle.std.proofs.Common.{get_or, inl, inr, subst, append_assoc, append-nil}
use Rattle.std.specs.Option.{option_map}
use Rattle.std.proofs.lemmas.Bool.{cases_Bool, cases_eq, eq-eqb, ne_eqb}
use Rattle.std.proofs.lemmas.List.{append_cancel_left, get_or-set_other, get_or-set_same}
use Rattle.std.proofs.lemmas.List.{length-set}
use Rattle.std.proofs.lemmas.List.{take_more}
use Rattle.std.proofs.Math.Seq.{drop-cons}
use Rattle.std.proofs.lemmas.List.Elements.{filter-append}
use Rattle.steer_base.specs.Entries.{is_class, place_in}
use Rattle.steer_base.specs.Orders.{IsPrefix}
use Rattle.history.specs.Finding.{Once}
use Rattle.history.proofs.SamePlaces.{Once-head, Once-tail, front_or, place-here, place-past}
use Rattle.history.proofs.SamePlaces.{some_same}
use Rattle.rule_check.specs.Chains.{AreChained, AreLeft, IsChain, is_in_class, in_class}
use Rattle.rule_check.specs.declared.chains.Chains.{Chains}

-- a packet's own class, and no other
own-class : (k : ℕ) → is_class k (Some k) ≡ true
own-class k = eq-eqb k k refl

other-class : (c k : ℕ) → c ≢ k → is_class c (Some k) ≡ false
other-class c k ne = ne_eqb c k ne

pub in_class-own : (classes : List (Option ℕ)) (k x : ℕ) (xs : List ℕ)
    → get_or classes x None ≡ Some k → in_class classes k (x ∷ xs) ≡ x ∷ in_class classes k xs
in_class-own classes k x xs e =
    let t : is_in_class classes k x ≡ true = ap (is_class k) e ∙ own-class k in rw t refl

pub in_class-other : (classes : List (Option ℕ)) (c k x : ℕ) (xs : List ℕ)
    → get_or classes x None ≡ Some k → c ≢ k → in_class classes c (x ∷ xs) ≡ in_class classes c xs
in_class-other classes c k x xs e ne =
    let t : is_in_class classes c x ≡ false = ap (is_class c) e ∙ other-class c k ne in rw t refl

pub in_class-none : (classes : List (Option ℕ)) (c x : ℕ) (xs : List ℕ)
    → get_or classes x None ≡ None → in_class classes c (x ∷ xs) ≡ in_class classes c xs
in_class-none classes c x xs e =
    let t : is_in_class classes c x ≡ false = ap (is_class c) e in rw t refl

-- what is not in a list is not among those of a class there
some-suc : (o : Option ℕ) → option_map suc o ≡ None → o ≡ None
some-suc None e = refl
some-suc (Some n) e = absurd (cc)

lacks-in_class : (classes : List (Option ℕ)) (c x : ℕ) (xs : List ℕ) → place_in x xs ≡ None
    → place_in x (in_class classes c xs) ≡ None
lacks-in_class classes c x [] e = refl
lacks-in_class classes c x (y ∷ ys) e = elim (cases_eq x y) [
  | inl same ↦ let f : place_in x (y ∷ ys) ≡ Some 1 = place-here x y ys same in absurd (cc)
  | inr ne ↦
      let rest : place_in x (in_class classes c ys) ≡ None =
      lacks-in_class classes c x ys (some-suc (place_in x ys) (sym (place-past x y ys ne) ∙ e)) in
      elim (cases_Bool (is_in_class classes c y)) [
        | inl t ↦ rw t (place-past x y (in_class classes c ys) ne ∙ ap (option_map suc) rest)
        | inr f ↦ rw f rest
      ]
]

-- a chain is as it was where the next packet of one that it does not have is set
chain-kept : (next : List (Option ℕ)) (id : ℕ) (v from : Option ℕ) (xs : List ℕ)
    → place_in id xs ≡ None → IsChain next from xs → IsChain (set next id v) from xs
chain-kept next id v from [] n h = h
chain-kept next id v from (x ∷ xs) n h = elim (cases_eq id x) [
  | inl same ↦ let f : place_in id (x ∷ xs) ≡ Some 1 = place-here id x xs same in absurd (cc)
  | inr ne ↦
      let n' : place_in id xs ≡ None = some-suc (place_in id xs) (sym (place-past id x xs ne) ∙ n)
      in
      let e : get_or (set next id v) x None ≡ get_or next x None =
      get_or-set_other next id x v None (λ f. ne (sym f)) in (
        h.0,
        subst (λ o. IsChain (set next id v) o xs) (sym e)
            (chain-kept next id v (get_or next x None) xs n' h.1),
      )
]

-- the chains of packets and what has left of them, over lists
abbrev pub Chained : (classes first next : List (Option ℕ)) → List ℕ → Type 0
Chained classes first next xs =
    (class : ℕ) → class < length first
    → IsChain next (get_or first class None) (in_class classes class xs)

abbrev pub Left : (classes first next : List (Option ℕ)) → List ℕ → List ℕ → Type 0
Left classes first next came gone =
    (class : ℕ) → class < length first
    → (rest : List ℕ) × IsChain next (get_or first class None) rest
    × (in_class classes class gone ++ rest ≡ in_class classes class came)

-- the chains with a packet of a class put first
module _ (classes first next : List (Option ℕ)) (id k : ℕ)
    (is : get_or classes id None ≡ Some k) (within : id < length next)
    (class : k < length first) where
  abbrev later : List (Option ℕ)
  later = set next id (get_or first k None)

  abbrev firsts : List (Option ℕ)
  firsts = set first k (Some id)

  chained-first : (xs : List ℕ) → Chained classes first next xs → place_in id xs ≡ None
      → Chained classes firsts later (id ∷ xs)
  chained-first xs h n c l =
      let l' : c < length first = omega (arith, l, length-set first k (Some id)) in
      let kept : IsChain later (get_or first c None) (in_class classes c xs) =
      chain-kept next id (get_or first k None) (get_or first c None) (in_class classes c xs)
      (lacks-in_class classes c id xs n) (h c l') in
      elim (cases_eq c k) [
        | inl same ↦
            let own : in_class classes c (id ∷ xs) ≡ id ∷ in_class classes c xs =
            in_class-own classes c id xs (is ∙ ap (λ j. Some j) (sym same)) in
            let f : get_or firsts c None ≡ Some id =
            ap (λ j. get_or firsts j None) same ∙ get_or-set_same first k (Some id) None class in
            let m : get_or later id None ≡ get_or first c None =
            get_or-set_same next id (get_or first k None) None within
            ∙ ap (λ j. get_or first j None) (sym same) in
            subst (λ ys. IsChain later (get_or firsts c None) ys) (sym own)
            (f, subst (λ o. IsChain later o (in_class classes c xs)) (sym m) kept)
        | inr ne ↦
            let f : get_or firsts c None ≡ get_or first c None =
            get_or-set_other first k c (Some id) None ne in
            subst (λ ys. IsChain later (get_or firsts c None) ys)
            (sym (in_class-other classes c k id xs is ne))
            (subst (λ o. IsChain later o (in_class classes c xs)) (sym f) kept)
      ]

pub put-first : (classes first next : List (Option ℕ)) (at id k : ℕ) (v : Option ℕ) → at ≡ id
    → v ≡ get_or first k None → get_or classes at None ≡ Some k → at < length next
    → k < length first → (xs : List ℕ) → Chained classes first next xs → place_in id xs ≡ None
    → Chained classes (set first k (Some id)) (set next at v) (id ∷ xs)
put-first classes first next at id k v same value is within class xs h n =
    let is' : get_or classes id None ≡ Some k = ap (λ a. get_or classes a None) (sym same) ∙ is in
    let e : set next id (get_or first k None) ≡ set next at v =
    ap (λ a. set next a (get_or first k None)) (sym same) ∙ ap (set next at) (sym value) in
    subst (λ later. Chained classes (set first k (Some id)) later (id ∷ xs)) e
    (chained-first classes first next id k is' (omega (arith, same, within)) class xs h n)

-- a packet without a class changes nothing
pub chained-plain : (classes : List (Option ℕ)) (chains : Chains) (id : ℕ) (xs : List ℕ)
    → get_or classes id None ≡ None → AreChained classes chains xs
    → AreChained classes chains (id ∷ xs)
chained-plain classes chains id xs e h c l =
    subst (λ ys. IsChain chains.next.items (get_or chains.first.items c None) ys)
    (sym (in_class-none classes c id xs e)) (h c l)

-- before any leaves, the chains have all that came
pub none-left : (classes : List (Option ℕ)) (chains : Chains) (came : List ℕ)
    → AreChained classes chains came → AreLeft classes chains came []
none-left classes chains came h c l = (in_class classes c came, h c l, refl)

in_class-append : (classes : List (Option ℕ)) (c : ℕ) (xs ys : List ℕ)
    → in_class classes c (xs ++ ys) ≡ in_class classes c xs ++ in_class classes c ys
in_class-append classes c xs ys = filter-append (is_in_class classes c) xs ys

-- a packet without a class leaves
pub left-plain : (classes : List (Option ℕ)) (chains : Chains) (id : ℕ) (came gone : List ℕ)
    → get_or classes id None ≡ None → AreLeft classes chains came gone
    → AreLeft classes chains came (gone ++ id ∷ [])
left-plain classes chains id came gone e h c l =
    let w = h c l in
    let same : in_class classes c (gone ++ id ∷ []) ≡ in_class classes c gone =
    in_class-append classes c gone (id ∷ []) ∙ ap (λ ys. in_class classes c gone ++ ys)
    (in_class-none classes c id [] e) ∙ append-nil (in_class classes c gone) in
    (w.0, w.1, ap (λ ys. ys ++ w.0) same ∙ w.2)

-- the chain of a class that begins with a packet
chain-head : (next : List (Option ℕ)) (from : Option ℕ) (id : ℕ) (xs : List ℕ) → from ≡ Some id
    → IsChain next from xs
    → (rest : List ℕ) × (xs ≡ id ∷ rest) × IsChain next (get_or next id None) rest
chain-head next from id [] e h = let f : None ≡ Some id = sym h ∙ e in absurd (cc)
chain-head next from id (x ∷ xs) e h =
    let same : x ≡ id = some_same x id (sym h.0 ∙ e) in
    (xs, ap (λ y. y ∷ xs) same, subst (λ y. IsChain next (get_or next y None) xs) same h.1)

-- the first packet of a class leaves
pub left-first : (classes first next : List (Option ℕ)) (id k : ℕ) (v : Option ℕ)
    → v ≡ get_or next id None → get_or classes id None ≡ Some k → k < length first
    → get_or first k None ≡ Some id → (came gone : List ℕ) → Left classes first next came gone
    → Left classes (set first k v) next came (gone ++ id ∷ [])
left-first classes first next id k v value is class began came gone h c l =
    let w = h c (omega (arith, l, length-set first k v)) in
    elim (cases_eq c k) [
      | inl same ↦
          let own : get_or classes id None ≡ Some c = is ∙ ap (λ j. Some j) (sym same) in
          let r = chain-head next (get_or first c None) id w.0
          (ap (λ j. get_or first j None) same ∙ began) w.1 in
          let f : get_or (set first k v) c None ≡ get_or next id None =
          ap (λ j. get_or (set first k v) j None) same ∙ get_or-set_same first k v None class
          ∙ value in
          let grown : in_class classes c (gone ++ id ∷ []) ≡ in_class classes c gone ++ id ∷ [] =
          in_class-append classes c gone (id ∷ []) ∙ ap (λ ys. in_class classes c gone ++ ys)
          (in_class-own classes c id [] own) in (
            r.0,
            subst (λ o. IsChain next o r.0) (sym f) r.2,
            ap (λ ys. ys ++ r.0) grown ∙ append_assoc (in_class classes c gone) (id ∷ []) r.0
                ∙ ap (λ ys. in_class classes c gone ++ ys) (sym r.1) ∙ w.2,
          )
      | inr ne ↦
          let f : get_or (set first k v) c None ≡ get_or first c None =
          get_or-set_other first k c v None ne in
          let same : in_class classes c (gone ++ id ∷ []) ≡ in_class classes c gone =
          in_class-append classes c gone (id ∷ []) ∙ ap (λ ys. in_class classes c gone ++ ys)
          (in_class-other classes c k id [] is ne) ∙ append-nil (in_class classes c gone) in
          (w.0, subst (λ o. IsChain next o w.0) (sym f) w.1, ap (λ ys. ys ++ w.0) same ∙ w.2)
    ]

chain-front : (next : List (Option ℕ)) (from : Option ℕ) (id : ℕ) (rest more : List ℕ)
    → rest ≡ id ∷ more → IsChain next from rest → from ≡ Some id
chain-front next from id [] more e h = absurd (cc)
chain-front next from id (x ∷ xs) more e h =
    let same : x ≡ id = ap (front_or 0) e in h.0 ∙ ap (λ y. Some y) same

-- a packet that is not the first of its class cannot leave next
pub not-first : (classes : List (Option ℕ)) (chains : Chains) (id k : ℕ)
    → get_or classes id None ≡ Some k → k < length chains.first.items
    → get_or chains.first.items k None ≢ Some id
    → (came gone more : List ℕ) → AreLeft classes chains came gone
    → IsPrefix (in_class classes k (gone ++ id ∷ more)) (in_class classes k came) → ⊥
not-first classes chains id k is l ne came gone more h p =
    let w = h k l in
    let grown : in_class classes k (gone ++ id ∷ more)
    ≡ in_class classes k gone ++ id ∷ in_class classes k more =
    in_class-append classes k gone (id ∷ more) ∙ ap (λ ys. in_class classes k gone ++ ys)
    (in_class-own classes k id more is) in
    let whole : in_class classes k gone ++ w.0
    ≡ in_class classes k gone ++ id ∷ (in_class classes k more ++ p.0) =
    w.2 ∙ sym p.1 ∙ ap (λ ys. ys ++ p.0) grown
    ∙ append_assoc (in_class classes k gone) (id ∷ in_class classes k more) p.0 in
    let rest : w.0 ≡ id ∷ (in_class classes k more ++ p.0) =
    append_cancel_left (in_class classes k gone) _ _ whole in
    ne (chain-front chains.next.items (get_or chains.first.items k None) id w.0
    (in_class classes k more ++ p.0) rest w.1)

-- a packet of a list without repeats is not among those after it
pub once-after : (xs : List ℕ) (i : ℕ) → Once xs → i < length xs
    → place_in (get_or xs i 0) (drop (suc i) xs) ≡ None
once-after [] i o l = absurd (omega (arith, l))
once-after (x ∷ xs) zero o l = Once-head x xs o
once-after (x ∷ xs) (suc i) o l = once-after xs i (Once-tail x xs o) (omega (arith, l))

-- a list up to a place, and from there on
pub taken-more : (gone xs : List ℕ) (i : ℕ) → i < length xs
    → (gone ++ take i xs) ++ get_or xs i 0 ∷ [] ≡ gone ++ take (i + 1) xs
taken-more gone xs i l =
    append_assoc gone (take i xs) (get_or xs i 0 ∷ [])
    ∙ ap (λ ys. gone ++ ys) (sym (take_more xs i 0 l) ∙ ap (λ n. take n xs) (omega arith))

taken-dropped : (i : ℕ) (xs : List ℕ) → take i xs ++ drop i xs ≡ xs
taken-dropped zero [] = refl
taken-dropped zero (x ∷ xs) = refl
taken-dropped (suc i) [] = refl
taken-dropped (suc i) (x ∷ xs) = ap (λ l. x ∷ l) (taken-dropped i xs)

pub rest-from : (gone xs more : List ℕ) (i : ℕ) → i < length xs
    → gone ++ (xs ++ more) ≡ (gone ++ take i xs) ++ get_or xs i 0 ∷ (drop (suc i) xs ++ more)
rest-from gone xs more i l =
    ap (λ ys. gone ++ (ys ++ more)) (sym (taken-dropped i xs) ∙ ap (λ ys. take i xs ++ ys)
    (drop-cons xs i 0 l))
    ∙ ap (λ ys. gone ++ ys) (append_assoc (take i xs) (get_or xs i 0 ∷ drop (suc i) xs) more)
    ∙ sym (append_assoc gone (take i xs) (get_or xs i 0 ∷ (drop (suc i) xs ++ more)))
