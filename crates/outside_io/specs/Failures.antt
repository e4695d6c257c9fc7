-- Which calls of an in-memory object fail, and how it counts them.
use Rattle.std.specs.Prelude.{◌≡◌, ℕ, List, Bool, ◌==◌}
use Rattle.std.specs.List.{list_any}
use Rattle.outside_io.specs.Counts.{counted, raised}
use Rattle.outside_io.specs.declared.failures.Failures.{Failures}

-- whether the next call is listed as failing; calls are numbered from 1
abbrev pub next_fails : Failures → Bool
next_fails failures = list_any (λ number. number == raised 1 failures.calls) failures.listed.items

-- these calls are listed as failing, and no call was made
pub record IsFresh (failures : Failures) (listed : List ℕ) : Type 0 where
  pub list : failures.listed.items ≡ listed
  pub calls : failures.calls ≡ 0
  pub faults : failures.faults ≡ 0

-- one more call was made, and one more fault is counted if it failed
pub record Counts (old new : Failures) (failed : Bool) : Type 0 where
  pub list : new.listed.items ≡ old.listed.items
  pub calls : new.calls ≡ raised 1 old.calls
  pub faults : new.faults ≡ counted failed old.faults
