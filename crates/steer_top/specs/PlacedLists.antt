-- A list of flows, and beside it how many levels were entered to reach each.
use Rattle.std.specs.Prelude.{ℕ, List, [], ◌∷◌}
use Rattle.steer_base.specs.declared.flow.Flow.{Flow}
use Rattle.steer_base.specs.declared.flow.Flow.TheVariants.{Bare}
use Rattle.tunnel_dissector.specs.declared.inner.Inner.{Inner}

-- What stands behind the last: no flow, in no level.
abbrev pub not_placed : Inner
not_placed = record { flow = Bare; depth = 0 }

-- Each flow with the number of levels at the same place.
abbrev pub placed_of : List Flow → List ℕ → List Inner
placed_of [] depths = []
placed_of (flow ∷ flows) [] = []
placed_of (flow ∷ flows) (depth ∷ depths) =
    record { flow = flow; depth = depth } ∷ placed_of flows depths
