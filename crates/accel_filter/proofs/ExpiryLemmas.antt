-- The expiry of a table, from set filter to set filter.
use Rattle.std.proofs.Common.{ℕ, ◌+◌, ◌<◌, ◌≤◌, ◌≡◌, Bool, true, false, List, [], ◌∷◌, ◌++◌}
use Rattle.std.proofs.Common.{Option, None, Some, length, take, drop, map, cond, refl, ap, sym}
use Rattle.std.proofs.Common.{◌∙◌, arith, zero, suc, inl, inr, subst, get_or, add-one}
use Rattle.std.proofs.Common.{append-nil, length-append}
use Rattle.std.specs.Prelude.{slice_index_or, slice_set}
use Rattle.std.specs.List.{All, filter}
use Rattle.std.specs.Slice.Scan.{HoldsNowhere}
use Rattle.std.proofs.lemmas.Bool.{cases_eq}
use Rattle.std.proofs.lemmas.List.{drop_all, length-drop, length-map, length-take, take_all}
use Rattle.std.proofs.lemmas.List.{get_or-set_other, get_or-set_same, length-set}
use Rattle.std.proofs.lemmas.List.Filters.{length-filter_more}
use Rattle.steer_base.specs.declared.filter.Filter.{Filter}
use Rattle.accel_filter.specs.Expiry.{IsExpiredTo, IsSeated, is_old, kept_of}
use Rattle.accel_filter.specs.Table.{has_filter}

-- a list whose first items are changed
module _ {X : Type 0} (f : X → X) where
  length-changed : (xs : List X) (i : ℕ) → length (map f (take i xs) ++ drop i xs) ≡ length xs
  length-changed xs i =
      rw (
        length-append (map f (take i xs)) (drop i xs),
        length-map (take i xs) f,
        length-take i xs,
        length-drop i xs,
      ) (omega arith)

  -- has the others as they were
  changed-from : (xs : List X) (i k : ℕ) (d : X) → i ≤ k → get_or (map f (take i xs)
      ++ drop i xs) k d ≡ get_or xs k d
  changed-from [] zero k d upto = refl
  changed-from [] (suc i) k d upto = refl
  changed-from (x ∷ xs) zero k d upto = refl
  changed-from (x ∷ xs) (suc i) zero d upto = absurd (omega (arith, upto))
  changed-from (x ∷ xs) (suc i) (suc k) d upto = changed-from xs i k d (omega (arith, upto))

  changed-suc : (xs : List X) (i : ℕ) (d : X) → i < length xs
      → slice_set (map f (take i xs) ++ drop i xs) i (f (get_or xs i d)) ≡ map f (take (suc i) xs)
      ++ drop (suc i) xs
  changed-suc [] i d lt = absurd (omega (arith, lt))
  changed-suc (x ∷ xs) zero d lt = refl
  changed-suc (x ∷ xs) (suc i) d lt = ap (λ ys. f x ∷ ys) (changed-suc xs i d (omega (arith, lt)))

  -- and one more is changed
  changed-next : (xs : List X) (i : ℕ) (d : X) → i < length xs
      → slice_set (map f (take i xs) ++ drop i xs) i (f (get_or xs i d)) ≡ map f (take (i + 1) xs)
      ++ drop (i + 1) xs
  changed-next xs i d lt = rw add-one (changed-suc xs i d lt)

-- a count that leaves out what is not set stays the same past filters that are not set
module _ (p : Option Filter → Bool) (none : p None ≡ false) where
  counted-past : (xs : List (Option Filter)) (from to : ℕ) → from ≤ to
      → HoldsNowhere (has_filter xs) from to
      → filter p (take to xs) ≡ filter p (take from xs)
  counted-past [] zero zero upto free = refl
  counted-past [] zero (suc to) upto free = refl
  counted-past [] (suc from) zero upto free = refl
  counted-past [] (suc from) (suc to) upto free = refl
  counted-past (x ∷ xs) zero zero upto free = refl
  counted-past (None ∷ xs) zero (suc to) upto free =
      rw none (counted-past xs zero to (omega arith)
      (λ k above below. free (suc k) (omega arith) (omega (arith, below))))
  counted-past (Some x ∷ xs) zero (suc to) upto free =
      absurd (let e : true ≡ false = free zero (omega arith) (omega arith) in cc)
  counted-past (x ∷ xs) (suc from) zero upto free = absurd (omega (arith, upto))
  counted-past (x ∷ xs) (suc from) (suc to) upto free =
      ap (λ ys. cond (p x) (x ∷ ys) ys) (counted-past xs from to (omega (arith, upto))
      (λ k above below. free (suc k) (omega (arith, above)) (omega (arith, below))))

-- and a change that leaves them unset changes none of them
module _ (f : Option Filter → Option Filter) (none : f None ≡ None) where
  changed-past : (xs : List (Option Filter)) (from to : ℕ) → from ≤ to
      → HoldsNowhere (has_filter xs) from to
      → map f (take from xs) ++ drop from xs ≡ map f (take to xs) ++ drop to xs
  changed-past [] zero zero upto free = refl
  changed-past [] zero (suc to) upto free = refl
  changed-past [] (suc from) zero upto free = refl
  changed-past [] (suc from) (suc to) upto free = refl
  changed-past (x ∷ xs) zero zero upto free = refl
  changed-past (None ∷ xs) zero (suc to) upto free =
      rw none (ap (λ ys. None ∷ ys) (changed-past xs zero to (omega arith)
      (λ k above below. free (suc k) (omega arith) (omega (arith, below)))))
  changed-past (Some x ∷ xs) zero (suc to) upto free =
      absurd (let e : true ≡ false = free zero (omega arith) (omega arith) in cc)
  changed-past (x ∷ xs) (suc from) zero upto free = absurd (omega (arith, upto))
  changed-past (x ∷ xs) (suc from) (suc to) upto free =
      ap (λ ys. f x ∷ ys) (changed-past xs from to (omega (arith, upto))
      (λ k above below. free (suc k) (omega (arith, above)) (omega (arith, below))))

module _ (heads flows : List ℕ) (all : List (Option Filter)) where
  -- at first nothing has gone
  pub expired_none : IsExpiredTo heads flows all 0 0 all
  expired_none = record { cleared = refl; counted = refl }

  module _ (filters : List (Option Filter)) (from n : ℕ)
      (is : IsExpiredTo heads flows all from n filters) where
    same-from : (k : ℕ) → from ≤ k → slice_index_or filters k None ≡ slice_index_or all k None
    same-from k upto =
        ap (λ (fs : List (Option Filter)). slice_index_or fs k None) is.cleared
        ∙ changed-from (kept_of heads flows) all from k None upto

    same-length : length filters ≡ length all
    same-length =
        ap (λ (fs : List (Option Filter)). length fs) is.cleared
        ∙ length-changed (kept_of heads flows) all from

    -- filters that are not set are passed over
    pub expired_past : (to : ℕ) → from ≤ to → HoldsNowhere (has_filter filters) from to
        → IsExpiredTo heads flows all to n filters
    expired_past to upto free =
        let unset : HoldsNowhere (has_filter all) from to = λ k above below.
        rw (same-from k above) at (free k above below) in
        record {
          cleared = is.cleared
              ∙ changed-past (kept_of heads flows) refl all from to upto unset;
          counted = is.counted
              ∙ ap (λ (fs : List (Option Filter)). length fs)
              (sym (counted-past (is_old heads flows) refl all from to upto unset));
        }

    -- after the last all have gone that may
    pub expired_all : length filters ≤ from
        → (filters ≡ map (kept_of heads flows) all)
        × (n ≡ length (filter (is_old heads flows) all))
    expired_all end =
        let past : length all ≤ from = omega (arith, same-length, end) in
        let whole : take from all ≡ all = take_all from all past in (
          is.cleared ∙ rw (whole, drop_all from all past) (append-nil _),
          is.counted ∙ ap (λ xs. length (filter (is_old heads flows) xs)) whole,
        )

  -- one more filter
  pub expired_next : (filters : List (Option Filter)) (i n to m : ℕ) → i < length filters
      → IsExpiredTo heads flows all i n filters
      → to ≡ i + 1
      → m ≡ n + cond (is_old heads flows (slice_index_or filters i None)) 1 0
      → IsExpiredTo heads flows all to m
      (slice_set filters i (kept_of heads flows (slice_index_or filters i None)))
  expired_next filters i n to m lt is one more =
      let at : slice_index_or filters i None ≡ slice_index_or all i None =
      same-from filters i n is i (omega arith) in
      let within : i < length all = omega (arith, same-length filters i n is, lt) in
      record {
        cleared = rw (one, at) (
            ap (λ (fs : List (Option Filter)). slice_set fs i
            (kept_of heads flows (slice_index_or all i None))) is.cleared
            ∙ changed-next (kept_of heads flows) all i None within);
        counted = more
            ∙ ap (λ o. n + cond (is_old heads flows o) 1 0) at
            ∙ ap (λ k. k + cond (is_old heads flows (slice_index_or all i None)) 1 0) is.counted
            ∙ sym (length-filter_more (is_old heads flows) all i None within)
            ∙ ap (λ k. length (filter (is_old heads flows) (take k all))) (sym one);
      }

-- filters that are cleared name nothing that there is not
module _ (heads flows : List ℕ) where
  seated-kept : (o : Option Filter) (b : Bool) → IsSeated heads flows o
      → IsSeated heads flows (cond b None o)
  seated-kept o true seated = tt
  seated-kept o false seated = seated

  pub seated_after : (filters : List (Option Filter)) (i : ℕ) → i < length filters
      → All (IsSeated heads flows) filters
      → All (IsSeated heads flows)
      (slice_set filters i (kept_of heads flows (slice_index_or filters i None)))
  seated_after filters i within all k d lt =
      let old : Option Filter = slice_index_or filters i None in
      let kept : Option Filter = kept_of heads flows old in
      elim (cases_eq k i) [
        | inl here ↦
            subst (IsSeated heads flows)
            (sym (ap (λ j. slice_index_or (slice_set filters i kept) j d) here
            ∙ get_or-set_same filters i kept d within))
            (seated-kept old (is_old heads flows old) (all i None within))
        | inr other ↦ (
            let same = length-set filters i kept in
            subst (IsSeated heads flows) (sym (get_or-set_other filters i k kept d other))
            (all k d (omega (arith, same, lt))))
      ]
