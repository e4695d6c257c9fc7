-- Counts of flows that are noted one by one are how often each flow stands there.
use Rattle.std.proofs.Common.{◌≡◌, ◌≢◌, ℕ, ◌+◌, Bool, true, false, not, cond, List, [], ◌∷◌, ◌++◌}
use Rattle.std.proofs.Common.{map, filter, refl, sym, ap, ◌∙◌, subst, arith, append_assoc}
use Rattle.std.proofs.Common.{append-nil, inl, inr, Some, unwrap_or, nat_eq}
use Rattle.std.specs.Prelude.{◌==◌}
use Rattle.std.specs.List.{flat_map}
use Rattle.std.specs.Map.{lookup}
use Rattle.std.proofs.lemmas.Bool.{eq-eqb, ne_eqb}
use Rattle.std.proofs.lemmas.Bool.Decides.{eqb_tells}
use Rattle.std.proofs.lemmas.List.Folds.{flat_map-map}
use Rattle.std.proofs.lemmas.List.Sums.{sum_by-cons}
use Rattle.indexmap.specs.IndexMap.{insert_entry}
use Rattle.taps.specs.Flows.{flow_row, once_each, times, without}
use Rattle.taps.specs.PerFlow.{counts_after, rows_of_counts}

times-cons : (g f : ℕ) (fs : List ℕ) → times g (f ∷ fs) ≡ cond (f == g) 1 0 + times g fs
times-cons g f fs = sum_by-cons (λ x. cond (x == g) 1 0) f fs

times-same : (g f : ℕ) (fs : List ℕ) → f ≡ g → times g (f ∷ fs) ≡ 1 + times g fs
times-same g f fs e = times-cons g f fs ∙ ap (λ b. cond b 1 0 + times g fs) (eq-eqb f g e)

times-other : (g f : ℕ) (fs : List ℕ) → f ≢ g → times g (f ∷ fs) ≡ times g fs
times-other g f fs ne =
    let none : 0 + times g fs ≡ times g fs = omega arith in
    times-cons g f fs ∙ ap (λ b. cond b 1 0 + times g fs) (ne_eqb f g ne) ∙ none

-- whether a flow has a count
abbrev has_key : ℕ → List (ℕ × ℕ) → Bool
has_key f [] = false
has_key f (e ∷ es) = cond (f == e.0) true (has_key f es)

-- each flow has one count
abbrev Unique : List (ℕ × ℕ) → Type 0
Unique [] = Unit {0}
Unique (e ∷ es) = (has_key e.0 es ≡ false) × Unique es

-- the counts with further flows added, and the counts of flows that have none yet
abbrev after : List (ℕ × ℕ) → List ℕ → List (ℕ × ℕ)
after counts flows = map (λ e. (e.0, e.1 + times e.0 flows)) counts

abbrev fresh : List ℕ → List ℕ → List (ℕ × ℕ)
fresh flows new = map (λ g. (g, times g flows)) new

abbrev own : ℕ → List ℕ → Bool → List (ℕ × ℕ)
own f fs b = cond b [] ((f, 1 + times f fs) ∷ [])

pub inserted_here : (e : ℕ × ℕ) (es : List (ℕ × ℕ)) (f n : ℕ) → (f == e.0) ≡ true
    → insert_entry nat_eq (e ∷ es) f n ≡ (e.0, n) ∷ es
inserted_here e es f n t = ap (λ b. cond b ((e.0, n) ∷ es) (e ∷ insert_entry nat_eq es f n)) t

pub inserted_later : (e : ℕ × ℕ) (es : List (ℕ × ℕ)) (f n : ℕ) → (f == e.0) ≡ false
    → insert_entry nat_eq (e ∷ es) f n ≡ e ∷ insert_entry nat_eq es f n
inserted_later e es f n t = ap (λ b. cond b ((e.0, n) ∷ es) (e ∷ insert_entry nat_eq es f n)) t

has_key-other : (es : List (ℕ × ℕ)) (f n g : ℕ) → g ≢ f → has_key g
    (insert_entry nat_eq es f n) ≡ has_key g es
has_key-other [] f n g ne = ap (λ b. cond b true false) (ne_eqb g f ne)
has_key-other (e ∷ es) f n g ne =
    elim (eqb_tells f e.0) [
      | inl t ↦ ap (has_key g) (inserted_here e es f n t.0)
      | inr t ↦ ap (has_key g) (inserted_later e es f n t.0) ∙ ap (λ b. cond (g == e.0) true b)
          (has_key-other es f n g ne)
    ]

has_key-inserted : (es : List (ℕ × ℕ)) (f n : ℕ) → has_key f (insert_entry nat_eq es f n) ≡ true
has_key-inserted [] f n = ap (λ b. cond b true false) (eq-eqb f f refl)
has_key-inserted (e ∷ es) f n =
    elim (eqb_tells f e.0) [
      | inl t ↦ ap (has_key f) (inserted_here e es f n t.0)
          ∙ ap (λ b. cond b true (has_key f es)) t.0
      | inr t ↦
          ap (has_key f) (inserted_later e es f n t.0)
          ∙ ap (λ b. cond b true (has_key f (insert_entry nat_eq es f n))) t.0
          ∙ has_key-inserted es f n
    ]

Unique-inserted : (es : List (ℕ × ℕ)) (f n : ℕ) → Unique es → Unique (insert_entry nat_eq es f n)
Unique-inserted [] f n u = (refl, tt)
Unique-inserted (e ∷ es) f n u =
    elim (eqb_tells f e.0) [
      | inl t ↦ subst Unique (sym (inserted_here e es f n t.0)) (u.0, u.1)
      | inr t ↦
          subst Unique (sym (inserted_later e es f n t.0))
          (has_key-other es f n e.0 (λ back. t.1 (sym back)) ∙ u.0, Unique-inserted es f n u.1)
    ]

-- no count of a flow that has none
after-absent : (es : List (ℕ × ℕ)) (f : ℕ) (fs : List ℕ) → has_key f es ≡ false
    → after es (f ∷ fs) ≡ after es fs
after-absent [] f fs h = refl
after-absent (e ∷ es) f fs h =
    elim (eqb_tells f e.0) [
      | inl t ↦ let clash : true ≡ false = sym (ap (λ b. cond b true (has_key f es)) t.0) ∙ h in cc
      | inr t ↦
          let rest : has_key f es ≡ false = sym (ap (λ b. cond b true (has_key f es)) t.0) ∙ h in
          ap (λ n. (e.0, e.1 + n) ∷ after es (f ∷ fs)) (times-other e.0 f fs t.1)
          ∙ ap (λ r. (e.0, e.1 + times e.0 fs) ∷ r) (after-absent es f fs rest)
    ]

-- one flow more is counted at its entry, or at a new one at the end
after-inserted : (es : List (ℕ × ℕ)) (f n : ℕ) (fs : List ℕ) → Unique es → n ≡ unwrap_or
    (lookup (nat_eq f) es) 0 + 1
    → after (insert_entry nat_eq es f n) fs ≡ after es (f ∷ fs) ++ own f fs (has_key f es)
after-inserted [] f n fs u count =
    let sum : n + times f fs ≡ 1 + times f fs = omega (arith, count) in ap (λ k. (f, k) ∷ []) sum
after-inserted (e ∷ es) f n fs u count =
    elim (eqb_tells f e.0) [
      | inl t ↦
          let value : n ≡ e.1 + 1 =
          count ∙ ap (λ b. unwrap_or (cond b (Some e.1) (lookup (nat_eq f) es)) 0 + 1) t.0 in
          let sum : n + times e.0 fs ≡ e.1 + times e.0 (f ∷ fs) =
          omega (arith, value, times-same e.0 f fs t.1) in
          let absent : has_key f es ≡ false = subst (λ g. has_key g es ≡ false) (sym t.1) u.0 in
          ap (λ r. after r fs) (inserted_here e es f n t.0)
          ∙ ap (λ k. (e.0, k) ∷ after es fs) sum
          ∙ ap (λ r. (e.0, e.1 + times e.0 (f ∷ fs)) ∷ r) (sym (after-absent es f fs absent))
          ∙ sym (append-nil (after (e ∷ es) (f ∷ fs)))
          ∙ ap (λ b. after (e ∷ es) (f ∷ fs) ++ own f fs (cond b true (has_key f es))) (sym t.0)
      | inr t ↦
          let value : n ≡ unwrap_or (lookup (nat_eq f) es) 0 + 1 =
          count ∙ ap (λ b. unwrap_or (cond b (Some e.1) (lookup (nat_eq f) es)) 0 + 1) t.0 in
          ap (λ r. after r fs) (inserted_later e es f n t.0)
          ∙ ap (λ r. (e.0, e.1 + times e.0 fs) ∷ r) (after-inserted es f n fs u.1 value)
          ∙ ap (λ k. (e.0, e.1 + k) ∷ (after es (f ∷ fs) ++ own f fs (has_key f es)))
          (sym (times-other e.0 f fs t.1))
          ∙ ap (λ b. after (e ∷ es) (f ∷ fs) ++ own f fs (cond b true (has_key f es))) (sym t.0)
    ]

-- flows that had no count: after f they are the others than f, and f is no more among them
fresh-more : (xs : List ℕ) (f : ℕ) (fs : List ℕ) (old new : ℕ → Bool)
    → ((g : ℕ) → g ≢ f → new g ≡ old g) → new f ≡ true
    → fresh fs (filter (λ g. not (new g)) xs) ≡ fresh (f ∷ fs) (filter (λ g. not (old g))
    (without f xs))
fresh-more [] f fs old new others here = refl
fresh-more (x ∷ xs) f fs old new others here =
    let rest = fresh-more xs f fs old new others here in
    elim (eqb_tells x f) [
      | inl t ↦
          let is : new x ≡ true = subst (λ g. new g ≡ true) (sym t.1) here in
          ap (λ b. fresh fs (cond (not b) (x ∷ filter (λ g. not (new g)) xs)
          (filter (λ g. not (new g)) xs))) is
          ∙ rest
          ∙ ap (λ b. fresh (f ∷ fs) (filter (λ g. not (old g)) (cond (not b) (x ∷ without f xs)
          (without f xs)))) (sym t.0)
      | inr t ↦
          ap (λ b. fresh fs (cond (not b) (x ∷ filter (λ g. not (new g)) xs)
          (filter (λ g. not (new g)) xs))) (others x t.1)
          ∙ fresh-kept x xs f fs old new (old x) t.1 rest
          ∙ ap (λ b. fresh (f ∷ fs) (filter (λ g. not (old g)) (cond (not b) (x ∷ without f xs)
          (without f xs)))) (sym t.0)
    ]
  where
    fresh-kept : (x : ℕ) (xs : List ℕ) (f : ℕ) (fs : List ℕ) (old new : ℕ → Bool) (b : Bool) → x ≢ f
        → fresh fs (filter (λ g. not (new g)) xs) ≡ fresh (f ∷ fs) (filter (λ g. not (old g))
        (without f xs))
        → fresh fs (cond (not b) (x ∷ filter (λ g. not (new g)) xs) (filter (λ g. not (new g)) xs))
        ≡ fresh (f ∷ fs) (cond (not b) (x ∷ filter (λ g. not (old g)) (without f xs))
        (filter (λ g. not (old g)) (without f xs)))
    fresh-kept x xs f fs old new true ne rest = rest
    fresh-kept x xs f fs old new false ne rest =
        ap (λ n. (x, n) ∷ fresh fs (filter (λ g. not (new g)) xs))
        (sym (times-other x f fs (λ back. ne (sym back))))
        ∙ ap (λ r. (x, times x (f ∷ fs)) ∷ r) rest

-- f itself, where it had no count
fresh-own : (f : ℕ) (fs more : List ℕ) (b : Bool) → fresh (f ∷ fs)
    (cond (not b) (f ∷ more) more) ≡ own f fs b ++ fresh (f ∷ fs) more
fresh-own f fs more true = refl
fresh-own f fs more false = ap (λ n. (f, n) ∷ fresh (f ∷ fs) more) (times-same f f fs refl)

after-none : (es : List (ℕ × ℕ)) → after es [] ≡ es
after-none [] = refl
after-none (e ∷ es) = let sum : e.1 + 0 ≡ e.1 = omega arith in ap (λ n. (e.0, n) ∷ after es []) sum
    ∙ ap (λ r. e ∷ r) (after-none es)

-- counts after further flows: those before with the flows added, and one for each new flow, in
-- order of first showing
counts_are : (flows : List ℕ) (es : List (ℕ × ℕ)) → Unique es
    → counts_after es flows ≡ after es flows ++ fresh flows (filter (λ g. not (has_key g es))
    (once_each flows))
counts_are [] es u = sym (append-nil (after es []) ∙ after-none es)
counts_are (f ∷ fs) es u =
    let n : ℕ = unwrap_or (lookup (nat_eq f) es) 0 + 1 in
    let more : List ℕ = filter (λ g. not (has_key g es)) (without f (once_each fs)) in
    counts_are fs (insert_entry nat_eq es f n) (Unique-inserted es f n u)
    ∙ ap (λ r. r ++ fresh fs (filter (λ g. not (has_key g (insert_entry nat_eq es f n)))
    (once_each fs))) (after-inserted es f n fs u refl)
    ∙ ap (λ r. (after es (f ∷ fs) ++ own f fs (has_key f es)) ++ r)
    (fresh-more (once_each fs) f fs (λ g. has_key g es)
    (λ g. has_key g (insert_entry nat_eq es f n)) (λ g ne. has_key-other es f n g ne)
    (has_key-inserted es f n))
    ∙ append_assoc (after es (f ∷ fs)) (own f fs (has_key f es)) (fresh (f ∷ fs) more)
    ∙ ap (λ r. after es (f ∷ fs) ++ r) (sym (fresh-own f fs more (has_key f es)))

keep_all : (xs : List ℕ) → filter (λ g. true) xs ≡ xs
keep_all [] = refl
keep_all (x ∷ xs) = ap (λ r. x ∷ r) (keep_all xs)

-- the text of a new tap
pub rows_of_flows : (flows : List ℕ) → rows_of_counts (counts_after [] flows) ≡ flat_map
    (λ flow. flow_row flow (times flow flows)) (once_each flows)
rows_of_flows flows =
    ap rows_of_counts (counts_are flows [] tt)
    ∙ ap (λ xs. rows_of_counts (fresh flows xs)) (keep_all (once_each flows))
    ∙ flat_map-map (λ e. flow_row e.0 e.1) (λ g. (g, times g flows)) (once_each flows)
