-- The arrivals of each queue among the first ones.
use Rattle.std.proofs.Common.{ℕ, ◌+◌, ◌≤◌, ◌<◌, ◌≡◌, ◌≢◌, cond, List, [], ◌∷◌, ◌++◌, ◌-◌}
use Rattle.std.proofs.Common.{Some, length, take, replicate, refl, ap, ◌∙◌, sym, arith, suc, zero}
use Rattle.std.proofs.Common.{inl, inr, get_or, set, subst}
use Rattle.std.specs.Prelude.{◌==◌, nat_lt, slice_index}
use Rattle.std.specs.List.{filter}
use Rattle.std.proofs.Math.ListN.{get_or-eq_default}
use Rattle.std.proofs.lemmas.Bool.{cases_Bool, cases_eq, cases_lt, ne_eqb, eq-eqb}
use Rattle.std.proofs.lemmas.List.{ext_get_or, length-take, get_or-replicate, get_or-set_same}
use Rattle.std.proofs.lemmas.List.{get_or-set_other, get_or_default, length-replicate, length-set}
use Rattle.std.proofs.lemmas.List.{length-map}
use Rattle.std.proofs.lemmas.List.Filters.{length-filter_more}
use Rattle.std.proofs.lemmas.List.FromFn.{get_or-map-range_with_len, length-map-range_with_len}
use Rattle.steer_base.specs.Entries.{place_in}
use Rattle.history.specs.Counted.{arrival_counts, rank_of}
use Rattle.history.specs.Lists.{arrivals_at, no_arrival}
use Rattle.history.specs.Places.{was_taken}
use Rattle.history.specs.declared.arrival.Arrival.{Arrival}
use Rattle.history.specs.declared.history.History.{History}
use Rattle.history.proofs.PlaceLemmas.{among-place}
use Rattle.history.proofs.RegularLemmas.{AreNumbered, numbered-head, numbered-tail, arrival-at}

count-more : (arrivals : List Arrival) (i q : ℕ) → i < length arrivals
    → length (arrivals_at (take (i + 1) arrivals) q) ≡ length
    (arrivals_at (take i arrivals) q) + cond ((get_or arrivals i no_arrival).queue == q) 1 0
count-more arrivals i q l =
    omega (
      arith,
      length-map (filter (λ a. a.queue == q) (take (i + 1) arrivals)) (λ a. a.id),
      length-map (filter (λ a. a.queue == q) (take i arrivals)) (λ a. a.id),
      length-filter_more (λ a. a.queue == q) arrivals i no_arrival l,
    )

pub count-at : (arrivals : List Arrival) (queues q : ℕ) → q < queues
    → get_or (arrival_counts arrivals queues) q 0 ≡ length (arrivals_at arrivals q)
count-at arrivals queues q l = get_or-map-range_with_len (λ p. length (arrivals_at arrivals p)) 0
    queues q q 0 l (omega arith)

length-counts : (arrivals : List Arrival) (queues : ℕ)
    → length (arrival_counts arrivals queues) ≡ queues
length-counts arrivals queues = length-map-range_with_len (λ p. length (arrivals_at arrivals p)) 0
    queues

-- one arrival more counts at its queue
pub counts-more : (arrivals : List Arrival) (queues i : ℕ) → i < length arrivals
    → set (arrival_counts (take i arrivals) queues) (get_or arrivals i no_arrival).queue
    (get_or (arrival_counts (take i arrivals) queues) (get_or arrivals i no_arrival).queue
    0 + 1)
    ≡ arrival_counts (take (i + 1) arrivals) queues
counts-more arrivals queues i l =
    let q = (get_or arrivals i no_arrival).queue in
    let old = arrival_counts (take i arrivals) queues in
    let w : length (set old q (get_or old q 0 + 1)) ≡ queues = length-set old q (get_or old q 0 + 1)
    ∙ length-counts (take i arrivals) queues in
    ext_get_or 0 (set old q (get_or old q 0 + 1)) (arrival_counts (take (i + 1) arrivals) queues)
    (w ∙ sym (length-counts (take (i + 1) arrivals) queues)) (λ k b.
    let kq : k < queues = omega arith in
    let now : get_or (arrival_counts (take (i + 1) arrivals) queues) k 0 ≡ length
    (arrivals_at (take i arrivals) k) + cond (q == k) 1 0 =
    count-at (take (i + 1) arrivals) queues k kq ∙ count-more arrivals i k l in
    let before : get_or old k 0 ≡ length (arrivals_at (take i arrivals) k) =
    count-at (take i arrivals) queues k kq in
    elim (cases_eq q k) [
      | inl e ↦
          let t : ◌≡◌ {A = ℕ} (cond (q == k) 1 0) 1 = rw (eq-eqb q k e) refl in
          let s : get_or (set old q (get_or old q 0 + 1)) q 0 ≡ get_or old q 0 + 1 =
          get_or-set_same old q (get_or old q 0 + 1) 0
          (omega (arith, length-counts (take i arrivals) queues)) in
          let s' : get_or (set old q (get_or old q 0 + 1)) k 0 ≡ get_or old k 0 + 1 =
          subst (λ m. get_or (set old q (get_or old q 0 + 1)) m 0 ≡ get_or old m 0 + 1) e s in
          omega (arith, s', before, now, t)
      | inr ne ↦
          let t : ◌≡◌ {A = ℕ} (cond (q == k) 1 0) 0 = rw (ne_eqb q k ne) refl in
          let s : get_or (set old q (get_or old q 0 + 1)) k 0 ≡ get_or old k 0 =
          get_or-set_other old q k (get_or old q 0 + 1) 0 (λ e. ne (sym e)) in
          omega (arith, s, before, now, t)
    ])

-- the counts are at most the number of arrivals
pub count-le : (arrivals : List Arrival) (q : ℕ) → length (arrivals_at arrivals q) ≤ length arrivals
count-le [] q = omega arith
count-le (a ∷ rest) q =
    elim (cases_Bool (a.queue == q)) [
      | inl t ↦ rw t (omega (arith, count-le rest q))
      | inr t ↦ rw t (omega (arith, count-le rest q))
    ]

-- the place of an arrival among those of its queue is one more than the number before it
pub place-arrival : (k i q : ℕ) (arrivals : List Arrival) → AreNumbered k arrivals
    → i < length arrivals → (get_or arrivals i no_arrival).queue ≡ q
    → place_in (k + i) (arrivals_at arrivals q) ≡ Some
    (suc (length (arrivals_at (take i arrivals) q)))
place-arrival k i q [] e l s = absurd (omega arith)
place-arrival k zero q (a ∷ rest) e l s =
    let h : a.id ≡ k = numbered-head k a rest e in
    let n : k + 0 ≡ a.id = omega arith in
    rw (eq-eqb a.queue q s, eq-eqb (k + 0) a.id n) refl
place-arrival k (suc i) q (a ∷ rest) e l s =
    let h : a.id ≡ k = numbered-head k a rest e in
    let ne : k + suc i ≢ a.id = λ f. omega arith in
    let n : k + suc i ≡ k + 1 + i = omega arith in
    let ih : place_in (k + suc i) (arrivals_at rest q) ≡ Some
    (suc (length (arrivals_at (take i rest) q))) =
    ap (λ m. place_in m (arrivals_at rest q)) n ∙ place-arrival (k + 1) i q rest
    (numbered-tail k a rest e) (omega arith) s in
    elim (cases_Bool (a.queue == q)) [
      | inl t ↦ rw (t, ne_eqb (k + suc i) a.id ne, ih) refl
      | inr t ↦ rw t ih
    ]

-- whether an arrival was taken, by the number before it
pub taken-count : (h : History) (i : ℕ) → AreNumbered 0 h.arrivals → i < length h.arrivals
    → was_taken h i ≡ nat_lt
    (length (arrivals_at (take i h.arrivals) (get_or h.arrivals i no_arrival).queue))
    (slice_index h.taken (get_or h.arrivals i no_arrival).queue)
taken-count h i e l =
    let q = (get_or h.arrivals i no_arrival).queue in
    let n : 0 + i ≡ i = omega arith in
    let place : place_in i (arrivals_at h.arrivals q) ≡ Some
    (suc (length (arrivals_at (take i h.arrivals) q))) =
    subst (λ m. place_in m (arrivals_at h.arrivals q) ≡ Some
    (suc (length (arrivals_at (take i h.arrivals) q)))) n
    (place-arrival 0 i q h.arrivals e l refl) in
    rw (arrival-at i h.arrivals e l) (among-place i (slice_index h.taken q)
    (arrivals_at h.arrivals q) ∙ (rw place (grind arith)))

-- The pass over the arrivals, one by one.
pub counts-none : (queues : ℕ) → replicate queues 0 ≡ arrival_counts [] queues
counts-none queues =
    ext_get_or 0 (replicate queues 0) (arrival_counts [] queues) (length-replicate queues 0
    ∙ sym (length-counts [] queues)) (λ q l.
    let k : q < queues = omega (arith, l, length-replicate {A = ℕ} queues 0) in
    get_or-replicate queues q 0 0 k ∙ sym (count-at [] queues q k))

replicate-all : (n : ℕ) → take {A = ℕ} n [] ++ replicate (n - 0) 0 ≡ replicate n 0
replicate-all zero = refl
replicate-all (suc n) = let e : suc n - 0 ≡ suc n = omega arith in rw e refl

-- a vector with no item, resized
pub counts-resized : (new old : List ℕ) (n k queues : ℕ) → new ≡ take n old ++ replicate (n - k) 0
    → old ≡ [] → k ≡ 0 → n ≡ queues → new ≡ arrival_counts [] queues
counts-resized new old n k queues e o z m =
    e ∙ (rw (o, z, m) (replicate-all queues ∙ counts-none queues))

module _ (h : History) (i : ℕ) (items : List Arrival) (a : Arrival) (arrived : List ℕ)
    (numbered : AreNumbered 0 h.arrivals) (few : length h.arrivals ≤ 262144)
    (same : items ≡ h.arrivals) (below : i < length items) (here : a ≡ get_or items i a)
    (counted : arrived ≡ arrival_counts (take i h.arrivals) (length h.taken)) where
  below-all : i < length h.arrivals
  below-all = subst (λ xs. i < length xs) same below

  arrival-here : a ≡ get_or h.arrivals i no_arrival
  arrival-here = here ∙ ap (λ xs. get_or xs i a) same
      ∙ get_or_default h.arrivals i a no_arrival below-all

  queue-here : a.queue ≡ (get_or h.arrivals i no_arrival).queue
  queue-here = ap (λ b. b.queue) arrival-here

  pub counted-width : length arrived ≡ length h.taken
  counted-width = ap length counted ∙ length-counts (take i h.arrivals) (length h.taken)

  pub counted-room : get_or arrived a.queue 0 + 1 < 4294967296
  counted-room =
      elim (cases_lt a.queue (length h.taken)) [
        | inl l ↦
            let n : get_or arrived a.queue 0 ≡ length (arrivals_at (take i h.arrivals) a.queue) =
            ap (λ xs. get_or xs a.queue 0) counted ∙ count-at (take i h.arrivals)
            (length h.taken) a.queue l in
            let b : length (arrivals_at (take i h.arrivals) a.queue) ≤ length (take i h.arrivals) =
            count-le (take i h.arrivals) a.queue in
            omega (arith, n, b, length-take i h.arrivals)
        | inr l ↦ let n : get_or arrived a.queue 0 ≡ 0 = get_or-eq_default arrived 0
            (omega (arith, l, counted-width)) in omega (arith, n)
      ]

  pub counted-arrival : (more : List ℕ) → more ≡ set arrived a.queue (get_or arrived a.queue 0 + 1)
      → more ≡ arrival_counts (take (i + 1) h.arrivals) (length h.taken)
  counted-arrival more e =
      e ∙ ap (λ xs. set xs a.queue (get_or xs a.queue 0 + 1)) counted
      ∙ ap (λ q. set (arrival_counts (take i h.arrivals) (length h.taken)) q
      (get_or (arrival_counts (take i h.arrivals) (length h.taken)) q 0 + 1)) queue-here
      ∙ counts-more h.arrivals (length h.taken) i below-all

  pub counted-rank : get_or arrived a.queue 0 ≡ rank_of h i
  counted-rank =
      ap (λ xs. get_or xs a.queue 0) counted
      ∙ ap (λ q. get_or (arrival_counts (take i h.arrivals) (length h.taken)) q 0)
      (queue-here ∙ ap (λ b. b.queue) (sym (arrival-at i h.arrivals numbered below-all)))
