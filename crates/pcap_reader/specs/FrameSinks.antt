-- What a sink of frames has taken: by the relation `takes`, the first sink, once it has taken these
-- frames one after another, is the second.
use Rattle.std.specs.Prelude.{ℕ, ◌<◌, List, [], ◌∷◌, ◌++◌, length}
use Rattle.steer_base.specs.declared.limits.TheConstants.{MAX_PACKETS}

-- a sink has taken fewer frames than a capture may have
abbrev pub HasRoom : {S : Type 0} → (S → List (List ℕ) → S → Type 0) → S → Type 0
HasRoom {S} takes sink =
    (first : S) × (frames : List (List ℕ)) × takes first frames sink
    × (length frames < MAX_PACKETS)

-- whatever the first sink had taken when it was the second, it has taken one more frame when it is
-- the third
abbrev pub TakesOne : {S : Type 0} → (S → List (List ℕ) → S → Type 0) → S → List ℕ → S → Type 0
TakesOne {S} takes old frame new =
    (first : S) (before : List (List ℕ)) → takes first before old
    → takes first (before ++ frame ∷ []) new
