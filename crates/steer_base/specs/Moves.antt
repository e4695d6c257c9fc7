-- When a class moves (kernel scaling chapter, section RFS: the three conditions under which a
-- flow's processor changes).
use Rattle.std.specs.Prelude.{ℕ, ◌≡◌, ◌≢◌, ◌⊎◌, ◌↔◌, Bool, true, false, Option, Some, None}
use Rattle.steer_base.specs.Choices.{by_entry, has_moved}
use Rattle.steer_base.specs.Counters.{has_reached}
use Rattle.steer_base.specs.declared.choice.Choice.{Choice}
use Rattle.steer_base.specs.declared.choice.Why.{Why}
use Rattle.steer_base.specs.declared.choice.Why.TheVariants.{Unset, Offline, Passed}

-- a case of the rule by which a class moves
abbrev pub IsMove : Why → Type 0
IsMove why = (why ≡ Unset) ⊎ ((why ≡ Offline) ⊎ (why ≡ Passed))

-- A class with this current lane and recorded tail may leave it for the desired one: it has none,
-- or another one than the desired that is offline or whose head has reached the tail.
abbrev pub MayLeave : ℕ → ℕ → (ℕ → ℕ) → (ℕ → Bool) → Option ℕ → Type 0
MayLeave desired tail head online None = Unit {0}
MayLeave desired tail head online (Some lane) =
    (lane ≢ desired) × ((online lane ≡ false) ⊎ (has_reached (head lane) tail 0 ≡ true))

-- What a choice does with a class of this current lane and recorded tail: a move is one of the
-- three cases, and is made just where the class may leave its lane. A move is to the desired lane,
-- and without one the class keeps its lane.
pub record MovesByThree (c : Choice) (desired tail : ℕ) (head : ℕ → ℕ) (online : ℕ → Bool)
    (current : Option ℕ) : Type 0 where
  pub cases : has_moved c.why ≡ true → IsMove c.why
  pub may : has_moved c.why ≡ true ↔ MayLeave desired tail head online current
  pub moved : has_moved c.why ≡ true → c.lane ≡ desired
  pub kept : has_moved c.why ≡ false → Some c.lane ≡ current

-- the same of the choice that the rule makes
abbrev pub RuleMovesByThree : Type 0
RuleMovesByThree =
    (class : ℕ) (want : Option ℕ) (desired tail : ℕ) (head : ℕ → ℕ) (online : ℕ → Bool)
    (current : Option ℕ)
    → MovesByThree (by_entry class want desired tail head online current) desired tail head online
    current
