-- The window of the last buckets and the counts of each bucket in it.
use Rattle.std.proofs.Common.{ℕ, ◌+◌, ◌-◌, ◌<◌, ◌≤◌, ◌≡◌, ◌≢◌, cond, List, [], ◌∷◌, ◌++◌, length}
use Rattle.std.proofs.Common.{drop, get_or, set, replicate, slice_get, Some, count_by, arith, refl}
use Rattle.std.proofs.Common.{sym, ap, ◌∙◌, subst, length-append, length-drop, inl, inr, zero-add}
use Rattle.std.proofs.Common.{get_or-set_same, get_or-set_other}
use Rattle.std.specs.Prelude.{◌==◌}
use Rattle.std.specs.List.{All}
use Rattle.std.proofs.lemmas.Bool.{eq-eqb, ne_eqb}
use Rattle.std.proofs.lemmas.Bool.Decides.{eqb_tells}
use Rattle.std.proofs.lemmas.List.{length-set, length-replicate, get_or-replicate, get_or_default}
use Rattle.std.proofs.lemmas.List.Elements.{All-append, All-drop}
use Rattle.std.proofs.lemmas.List.Sums.{count_by-le-length, sum_by-append, sum_by-cons}
use Rattle.std.proofs.lemmas.Option.{get_or_from_slice_get, slice_get_within}
use Rattle.circular_buffer.specs.Buffer.{Buffer, buffer}
use Rattle.backlog.specs.Counted.{IsCountOf, IsWindow}

-- 1 for the bucket itself
one_if : ℕ → ℕ → ℕ
one_if k b = cond (b == k) 1 0

count-append : (k b : ℕ) (xs : List ℕ) → count_by (λ x. x == k) (xs ++ b ∷ []) ≡ count_by
    (λ x. x == k) xs + one_if k b
unfolding one_if
count-append k b xs =
    sum_by-append (λ x. cond (x == k) 1 0) xs (b ∷ []) ∙ ap (λ n. count_by (λ x. x == k) xs + n)
    (zero-add (cond (b == k) 1 0))

count-cons : (k b : ℕ) (xs : List ℕ) → count_by (λ x. x == k) (b ∷ xs) ≡ one_if k b + count_by
    (λ x. x == k) xs
unfolding one_if
count-cons k b xs = sum_by-cons (λ x. cond (x == k) 1 0) b xs

one_if-same : (k b : ℕ) → k ≡ b → one_if k b ≡ 1
unfolding one_if
one_if-same k b e = ap (λ t. cond t 1 0) (eq-eqb b k (sym e))

one_if-other : (k b : ℕ) → k ≢ b → one_if k b ≡ 0
unfolding one_if
one_if-other k b ne = ap (λ t. cond t 1 0) (ne_eqb b k (λ e. ne (sym e)))

-- the counts after an offer of bucket b
IsCountOf-more : (counts xs : List ℕ) (b v : ℕ) → IsCountOf counts xs → length counts ≡ 4096
    → b < 4096 → v ≡ get_or counts b v
    → IsCountOf (set counts b (v + 1)) (xs ++ b ∷ [])
IsCountOf-more counts xs b v is wide small e = λ k less.
    let in' : b < length counts = omega arith in
    let old : get_or counts k 0 ≡ count_by (λ x. x == k) xs = is k less in
    let read : v ≡ get_or counts b 0 = e ∙ get_or_default counts b v 0 in' in
    elim (eqb_tells k b) [
      | inl t ↦
          let same : k ≡ b = t.1 in
          let new : get_or (set counts b (v + 1)) k 0 ≡ v + 1 =
          rw same (get_or-set_same counts b (v + 1) 0 in') in
          let was : get_or counts k 0 ≡ get_or counts b 0 = ap (λ j. get_or counts j 0) same in
          omega (arith, count-append k b xs, one_if-same k b same)
      | inr t ↦
          let new : get_or (set counts b (v + 1)) k 0 ≡ get_or counts k 0 =
          get_or-set_other counts b k (v + 1) 0 t.1 in
          omega (arith, count-append k b xs, one_if-other k b t.1)
    ]

-- the counts without the first bucket of the window
IsCountOf-less : (counts xs : List ℕ) (b v : ℕ) → IsCountOf counts (b ∷ xs) → length counts ≡ 4096
    → b < 4096 → v ≡ get_or counts b v
    → IsCountOf (set counts b (v - 1)) xs
IsCountOf-less counts xs b v is wide small e = λ k less.
    let in' : b < length counts = omega arith in
    let old : get_or counts k 0 ≡ count_by (λ x. x == k) (b ∷ xs) = is k less in
    let read : v ≡ get_or counts b 0 = e ∙ get_or_default counts b v 0 in' in
    elim (eqb_tells k b) [
      | inl t ↦
          let same : k ≡ b = t.1 in
          let new : get_or (set counts b (v - 1)) k 0 ≡ v - 1 =
          rw same (get_or-set_same counts b (v - 1) 0 in') in
          let was : get_or counts k 0 ≡ get_or counts b 0 = ap (λ j. get_or counts j 0) same in
          omega (arith, count-cons k b xs, one_if-same k b same)
      | inr t ↦
          let new : get_or (set counts b (v - 1)) k 0 ≡ get_or counts k 0 =
          get_or-set_other counts b k (v - 1) 0 t.1 in
          omega (arith, count-cons k b xs, one_if-other k b t.1)
    ]

front : (xs : List ℕ) (o : ℕ) → slice_get xs 0 ≡ Some o → xs ≡ o ∷ drop 1 xs
front [] o e = cc
front (x ∷ xs) o e = let same : x ≡ o = cc in ap (λ y. y ∷ xs) same

oldest_small : (last : Buffer ℕ) (counts : List ℕ) (o : ℕ) → IsWindow last counts
    → slice_get last.items 0 ≡ Some o → o < 4096
oldest_small last counts o w e =
    let P : ℕ → Type 0 = λ b. b < 4096 in
    subst P (get_or_from_slice_get last.items 0 o 0 e)
    (w.buckets 0 0 (slice_get_within last.items 0 o e))

pub count_fits : (last : Buffer ℕ) (counts : List ℕ) (b v : ℕ) → IsWindow last counts → b < 4096
    → v ≡ get_or counts b v → v ≤ 256
count_fits last counts b v w small e =
    let in' : b < length counts = omega (arith, w.width) in
    let read : v ≡ get_or counts b 0 = e ∙ get_or_default counts b v 0 in' in
    let is : get_or counts b 0 ≡ count_by (λ x. x == b) last.items = w.counted b small in
    let few = w.few in
    omega (arith, count_by-le-length (λ x. x == b) last.items)

pub oldest_counts : (last : Buffer ℕ) (counts : List ℕ) (o v : ℕ) → IsWindow last counts
    → slice_get last.items 0 ≡ Some o
    → v ≡ get_or counts o v → 1 ≤ v
oldest_counts last counts o v w some e =
    let small : o < 4096 = oldest_small last counts o w some in
    let in' : o < length counts = omega (arith, w.width) in
    let read : v ≡ get_or counts o 0 = e ∙ get_or_default counts o v 0 in' in
    let is : get_or counts o 0 ≡ count_by (λ x. x == o) last.items = w.counted o small in
    let cut : count_by (λ x. x == o) last.items ≡ count_by (λ x. x == o) (o ∷ drop 1 last.items) =
    ap (count_by (λ x. x == o)) (front last.items o some) in
    omega (arith, count-cons o o (drop 1 last.items), one_if-same o o refl)

pub oldest_within : (last : Buffer ℕ) (counts : List ℕ) (o : ℕ) → IsWindow last counts
    → slice_get last.items 0 ≡ Some o → o < length counts
oldest_within last counts o w some = omega (arith, w.width, oldest_small last counts o w some)

pub IsWindow-less : (last after : Buffer ℕ) (counts : List ℕ) (o v : ℕ) → IsWindow last counts
    → slice_get last.items 0 ≡ Some o
    → v ≡ get_or counts o v → after ≡ buffer (drop 1 last.items) last.capacity → IsWindow after
    (set counts o (v - 1))
IsWindow-less last after counts o v w some e is =
    let few = w.few in
    rw is (record {
      capacity = w.capacity;
      few = rw length-drop (omega arith);
      buckets = All-drop (λ b. b < 4096) 1 last.items w.buckets;
      width = rw length-set w.width;
      counted = IsCountOf-less counts (drop 1 last.items) o v (subst (IsCountOf counts)
          (front last.items o some) w.counted) w.width
          (oldest_small last counts o w some) e;
    })

pub IsWindow-more : (last after : Buffer ℕ) (counts : List ℕ) (b v : ℕ) → IsWindow last counts
    → length last.items < 256 → b < 4096
    → v ≡ get_or counts b v → after ≡ buffer (last.items ++ b ∷ []) last.capacity → IsWindow after
    (set counts b (v + 1))
IsWindow-more last after counts b v w room small e is =
    rw is (record {
      capacity = w.capacity;
      few = rw length-append (omega arith);
      buckets = All-append (λ x. x < 4096) last.items (b ∷ []) w.buckets (one small);
      width = rw length-set w.width;
      counted = IsCountOf-more counts last.items b v w.counted w.width small e;
    })
  where
    one : b < 4096 → All (λ x. x < 4096) (b ∷ [])
    one h = λ k d less. let first : k ≡ 0 = omega arith in rw first h

pub IsWindow-empty : (counts : List ℕ) → counts ≡ replicate 4096 0 → IsWindow (buffer [] 256) counts
IsWindow-empty counts e = rw e (record {
  capacity = refl;
  few = omega arith;
  buckets = λ k d less. absurd (omega arith);
  width = length-replicate {A = ℕ} 4096 0;
  counted = λ k less. get_or-replicate {A = ℕ} 4096 k 0 0 less;
})
