-- The filters that an expiry of the whole table clears.
use Rattle.std.specs.Prelude.{ℕ, ◌≡◌, ◌<◌, Bool, false, List, Option, Some, None, ◌++◌, length}
use Rattle.std.specs.Prelude.{map, take, drop, slice_index, if◌then◌else◌}
use Rattle.std.specs.List.{filter}
use Rattle.steer_base.specs.Filters.{may_expire}
use Rattle.steer_base.specs.declared.filter.Filter.{Filter}

-- Whether a filter is set and may expire, by the heads of the processors and the flow counts of the
-- queues.
abbrev pub is_old : List ℕ → List ℕ → Option Filter → Bool
is_old heads flows None = false
is_old heads flows (Some filter) =
    may_expire filter (slice_index heads filter.cpu) (slice_index flows filter.queue)

-- a filter after the expiry: none if it may expire, otherwise the same
abbrev pub kept_of : List ℕ → List ℕ → Option Filter → Option Filter
kept_of heads flows filter = if is_old heads flows filter then None else filter

-- a filter names a processor and a queue of these, if it is set
abbrev pub IsSeated : List ℕ → List ℕ → Option Filter → Type 0
IsSeated heads flows None = Unit {0}
IsSeated heads flows (Some filter) =
    (filter.cpu < length heads) × (filter.queue < length flows)

-- the table during the expiry of all these filters: of those before a number n have gone
pub record IsExpiredTo (heads flows : List ℕ) (all : List (Option Filter)) (to n : ℕ)
    (filters : List (Option Filter)) : Type 0 where
  pub cleared : filters ≡ map (kept_of heads flows) (take to all) ++ drop to all
  pub counted : n ≡ length (filter (is_old heads flows) (take to all))
