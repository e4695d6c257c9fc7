-- What holds of the machine after any steps, all of it.
use Rattle.steer_model.specs.State.Machine.{Machine}
use Rattle.steer_invariant.specs.StepInvariant.{StepInvariant}
use Rattle.steer_invariant.specs.Ranges.{IsRanged}
use Rattle.steer_invariant.specs.RecordedLists.{IsRecorded}

-- The invariant of the machine: what holds after any steps.
pub record Invariant (m : Machine) : Type 0 where
  -- what each step needs: both hops, the settings and the lists fit each other
  pub kept : StepInvariant m
  -- filters name processors, and flow counts are in range, so that an expiry can be made
  pub ranged : IsRanged m
  -- the lists of the history agree with each other, so that a report can be made
  pub recorded : IsRecorded m
