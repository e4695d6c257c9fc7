-- Where the packets of one set are.
use Rattle.std.specs.Prelude.{ℕ, Bool, List, [], ◌++◌, ◌≡◌, ◌≢◌, drop, filter}

-- The packets of a set that were put and kept are those in the out lane followed by those that wait
-- at one lane, and none that is not retired is at another lane.
pub record Gathered (set : ℕ → Bool) (accepted : ℕ → List ℕ) (delivered retired : ℕ → ℕ)
    (out kept : List ℕ) (lane : ℕ) : Type 0 where
  pub in_order : kept ≡ filter set out ++ filter set (drop (delivered lane) (accepted lane))
  pub nowhere_else : (d : ℕ) → d ≢ lane → filter set (drop (retired d) (accepted d)) ≡ []
