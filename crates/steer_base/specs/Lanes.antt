-- A lane as lists and numbers: the backlog of a processor, or a transmit queue.
use Rattle.std.specs.Prelude.{ℕ, Bool, List, Option}
use Rattle.steer_base.specs.declared.put.LaneDrop.{LaneDrop}

-- The accepted packets, the bucket of each offer (none without a hash), the drops and how many
-- packets were pulled; and what never changes: the limit on waiting packets, the room for offers,
-- the number that its counters start at, and whether the flow limit holds.
pub record LaneLists : Type 0 where
  pub accepted : List ℕ
  pub offers : List (Option ℕ)
  pub drops : List LaneDrop
  pub pulled : ℕ
  pub limit : ℕ
  pub room : ℕ
  pub start : ℕ
  pub limited : Bool
