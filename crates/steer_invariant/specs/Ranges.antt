-- What filters and flow counts name stays within the plan's ranges, so that an expiry can read the
-- head of each filter's processor and the flow count of its queue.
use Rattle.std.specs.Prelude.{ℕ, ◌≡◌, ◌<◌, ◌≤◌, List, Option, None, Some, slice_index_or}
use Rattle.std.specs.List.{All}
use Rattle.steer_base.specs.declared.filter.Filter.{Filter}
use Rattle.steer_base.specs.declared.limits.TheConstants.{MAX_FLOW_COUNT}
use Rattle.steer_model.specs.State.Machine.{Machine}
use Rattle.steer_model.specs.State.Setup.{Setup}
use Rattle.steer_model.specs.declared.note.Note.{Note}
use Rattle.steer_model.specs.declared.note.Note.TheVariants as note

-- No flow count in force is over MAX_FLOW_COUNT, and each filter that is set or asked for names a
-- processor that exists.
pub record Ranged (p : Setup) (counts : List ℕ) (filters : List (Option Filter))
    (notes : List Note) : Type 0 where
  pub flows : All (λ count. count ≤ MAX_FLOW_COUNT) counts
  pub set : (i : ℕ) (filter : Filter) → slice_index_or filters i None ≡ Some filter
      → filter.cpu < p.cpus
  pub asked : (q : ℕ) (filter : Filter)
      → slice_index_or notes q note.Nothing ≡ note.Asking filter → filter.cpu < p.cpus

-- The flow counts and the filters of a machine are in range.
abbrev pub IsRanged : Machine → Type 0
IsRanged m = Ranged m.setup m.settings.counts m.filters m.notes
