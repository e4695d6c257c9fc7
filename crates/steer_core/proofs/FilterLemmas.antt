-- The filters that may be cleared, by copies of the heads and of the flow counts.
use Rattle.std.proofs.Common.{ℕ, ◌+◌, ◌<◌, ◌≤◌, ◌≡◌, List, [], ◌∷◌, Option, Some, None}
use Rattle.std.proofs.Common.{length, map, cond, refl, ap, sym, ◌∙◌, arith, inl, inr}
use Rattle.std.specs.Prelude.{slice_index, slice_index_or, slice_set}
use Rattle.std.specs.List.{All, filter}
use Rattle.std.proofs.lemmas.Bool.{cases_eq}
use Rattle.std.proofs.lemmas.List.{get_or-set_other, get_or-set_same, length-set}
use Rattle.std.proofs.lemmas.List.Elements.{All-head, All-tail}
use Rattle.steer_base.specs.Filters.{may_expire}
use Rattle.steer_base.specs.declared.filter.Filter.{Filter}
use Rattle.accel_filter.specs.Expiry as expiry
use Rattle.hop_model.specs.Hop.{HopState}
use Rattle.steer_model.specs.State.Settings.{Settings}
use Rattle.steer_core.specs.OldFilters.{AreCountsBelow, AreHeadsBelow, FilterIsSeated, is_old}
use Rattle.steer_core.specs.OldFilters.{kept_of}

module _ (rx : HopState) (now : Settings) (heads counts : List ℕ)
    (by_head : AreHeadsBelow rx (length rx.bare.accepted) heads)
    (by_count : AreCountsBelow now (length now.counts) counts) where
  same-old : (o : Option Filter) → FilterIsSeated rx now o
      → expiry.is_old heads counts o ≡ is_old rx now o
  same-old None seated = refl
  same-old (Some filter) seated =
      ap (λ head. may_expire filter head (slice_index counts filter.queue))
      (by_head filter.cpu seated.0)
      ∙ ap (may_expire filter _) (by_count filter.queue seated.1)

  -- the same are cleared
  pub same-kept : (filters : List (Option Filter)) → All (FilterIsSeated rx now) filters
      → map (expiry.kept_of heads counts) filters ≡ map (kept_of rx now) filters
  same-kept [] seated = refl
  same-kept (o ∷ filters) seated =
      ap (λ b. cond b None o ∷ map (expiry.kept_of heads counts) filters)
      (same-old o (All-head (FilterIsSeated rx now) o filters seated))
      ∙ ap (λ (os : List (Option Filter)). kept_of rx now o ∷ os)
      (same-kept filters (All-tail (FilterIsSeated rx now) o filters seated))

  same-filtered : (filters : List (Option Filter)) → All (FilterIsSeated rx now) filters
      → filter (expiry.is_old heads counts) filters ≡ filter (is_old rx now) filters
  same-filtered [] seated = refl
  same-filtered (o ∷ filters) seated =
      let rest : List (Option Filter) = filter (expiry.is_old heads counts) filters in
      ap (λ b. cond b (o ∷ rest) rest)
      (same-old o (All-head (FilterIsSeated rx now) o filters seated))
      ∙ ap (λ (os : List (Option Filter)). cond (is_old rx now o) (o ∷ os) os)
      (same-filtered filters (All-tail (FilterIsSeated rx now) o filters seated))

  -- and as many
  pub same-count : (filters : List (Option Filter)) → All (FilterIsSeated rx now) filters
      → length (filter (expiry.is_old heads counts) filters)
      ≡ length (filter (is_old rx now) filters)
  same-count filters seated =
      ap (λ (os : List (Option Filter)). length os) (same-filtered filters seated)

-- a list that has the numbers of f below a place has one more of them
pub one_more : (f : ℕ → ℕ) (xs : List ℕ) (i x : ℕ) → i < length xs → x ≡ f i
    → ((k : ℕ) → k < i → slice_index xs k ≡ f k)
    → (k : ℕ) → k < i + 1 → slice_index (slice_set xs i x) k ≡ f k
one_more f xs i x within is below k lt = elim (cases_eq k i) [
  | inl here ↦
      ap (slice_index (slice_set xs i x)) here ∙ get_or-set_same xs i x 0 within ∙ is
      ∙ ap f (sym here)
  | inr other ↦ get_or-set_other xs i k x 0 other ∙ below k (omega (arith, lt, other))
]

-- a number within a limit is put into a list of such numbers
pub all_set : (limit : ℕ) (xs : List ℕ) (i x : ℕ) → x ≤ limit → All (λ n. n ≤ limit) xs
    → All (λ n. n ≤ limit) (slice_set xs i x)
all_set limit xs i x few all k d lt =
    let within : k < length xs = (let same = length-set xs i x in omega (arith, same, lt)) in
    elim (cases_eq k i) [
      | inl here ↦
          let is : slice_index_or (slice_set xs i x) k d ≡ x =
          ap (λ j. slice_index_or (slice_set xs i x) j d) here
          ∙ get_or-set_same xs i x d (omega (arith, here, within)) in
          omega (arith, is, few)
      | inr other ↦
          let is : slice_index_or (slice_set xs i x) k d ≡ slice_index_or xs k d =
          get_or-set_other xs i k x d other in
          let old = all k d within in omega (arith, is, old)
    ]
