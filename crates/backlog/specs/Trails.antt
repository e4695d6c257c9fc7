-- The buckets of offers in order.
use Rattle.std.specs.Prelude.{ℕ, List, [], ◌∷◌, ◌++◌, Option}
use Rattle.backlog.specs.declared.buckets.Trail.{Trail, Start, Offer'}

-- the bucket of each offer, the oldest first
abbrev pub trail_buckets : Trail → List (Option ℕ)
trail_buckets Start = []
trail_buckets (Offer' _ so_far bucket) = trail_buckets so_far ++ bucket ∷ []
