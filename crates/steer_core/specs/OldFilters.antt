-- The filters that the command `expire` clears.
use Rattle.std.specs.Prelude.{ℕ, ◌≡◌, ◌<◌, Bool, false, List, Option, Some, None, length}
use Rattle.std.specs.Prelude.{slice_index, if◌then◌else◌}
use Rattle.steer_base.specs.Filters.{may_expire}
use Rattle.steer_base.specs.declared.filter.Filter.{Filter}
use Rattle.hop_model.specs.Hop.{HopState, head_at}
use Rattle.steer_model.specs.State.Settings.{Settings}

-- Whether a filter is set and may be cleared, by the head of its processor at the receive hop and
-- the flow count of its queue.
abbrev pub is_old : HopState → Settings → Option Filter → Bool
is_old rx now None = false
is_old rx now (Some filter) =
    may_expire filter (head_at rx.fixed.start rx.bare filter.cpu)
    (slice_index now.counts filter.queue)

-- A filter after `expire`: none if it may be cleared, otherwise the same.
abbrev pub kept_of : HopState → Settings → Option Filter → Option Filter
kept_of rx now filter = if is_old rx now filter then None else filter

-- A filter names a processor and a queue that exist.
abbrev pub FilterIsSeated : HopState → Settings → Option Filter → Type 0
FilterIsSeated rx now None = Unit {0}
FilterIsSeated rx now (Some filter) =
    (filter.cpu < length rx.bare.accepted) × (filter.queue < length now.counts)

-- These are the heads of the processors below a number.
abbrev pub AreHeadsBelow : HopState → ℕ → List ℕ → Type 0
AreHeadsBelow rx cpus heads =
    (cpu : ℕ) → cpu < cpus → slice_index heads cpu ≡ head_at rx.fixed.start rx.bare cpu

-- These are the flow counts of the receive queues below a number.
abbrev pub AreCountsBelow : Settings → ℕ → List ℕ → Type 0
AreCountsBelow now queues counts =
    (queue : ℕ) → queue < queues → slice_index counts queue ≡ slice_index now.counts queue
