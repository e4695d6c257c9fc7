-- The filters of a card with accelerated receive flow steering (kernel scaling chapter, section
-- accelerated RFS), seen as a list: each is set, or there is none. Their expiry is this project's
-- own.
use Rattle.std.specs.Prelude.{ℕ, Bool, false, List, Option, Some, None, slice_index_or}
use Rattle.std.specs.Option.{is_some}
use Rattle.steer_base.specs.Filters.{may_expire}
use Rattle.steer_base.specs.HashTables.{cleared_rows, place_in_rows, row_at, with_row}
use Rattle.steer_base.specs.declared.filter.Filter.{Filter}

-- a table of this many filters, none of them set
abbrev pub unset : ℕ → List (Option Filter)
unset count = cleared_rows count None

-- whether the filter of a number is set; past the last there is none
abbrev pub has_filter : List (Option Filter) → ℕ → Bool
has_filter filters i = is_some (slice_index_or filters i None)

-- the filter that a hash finds in the table
abbrev pub filter_of : List (Option Filter) → ℕ → Option Filter
filter_of filters hash = row_at None filters (place_in_rows filters (Some hash))

-- the table after a filter was written for a hash
abbrev pub steered : List (Option Filter) → ℕ → Filter → List (Option Filter)
steered filters hash filter = with_row filters (place_in_rows filters (Some hash)) (Some filter)

-- whether a filter is set and may expire
abbrev pub is_over : Option Filter → ℕ → ℕ → Bool
is_over None head flows = false
is_over (Some filter) head flows = may_expire filter head flows
