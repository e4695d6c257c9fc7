-- What workers count of their actors.
use Rattle.std.specs.Prelude.{ℕ, List}
use Rattle.run_crew.specs.CountLaws.{accepted_of, chosen_of, played, retired_of}
use Rattle.run_crew.specs.Crews.{pollers_of, ships_of}
use Rattle.run_crew.specs.declared.counts.Count.{Count}
use Rattle.run_crew.specs.declared.counts.Count.TheVariants as count
use Rattle.run_crew.specs.declared.seated.Seated.{Seated}

-- A count of the actor with a number; 0 if no worker plays it.
abbrev pub counted : Count → List Seated → ℕ → ℕ
counted count.Chosen crew n = chosen_of (played crew pollers_of n)
counted count.Accepted crew n = accepted_of (played crew pollers_of n)
counted count.Retired crew n = retired_of (played crew ships_of n)
