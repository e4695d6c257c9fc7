-- How many packets the workers of a run have finished, and that the count of its sweep is full when
-- these are all.
use Rattle.std.specs.Prelude.{ℕ, ◌≤◌, List, length}
use Rattle.std.specs.List.{sum_by}
use Rattle.run_workers.specs.Stages.{StageView}
use Rattle.run_workers.specs.Tally.{finished_by}
use Rattle.run_crew.specs.CountLaws.{IsFull}
use Rattle.run_crew.specs.Crews.{AreWorking}
use Rattle.run_crew.specs.declared.seated.Seated.{Seated}

-- How many packets these workers have finished together.
abbrev pub finished_by_all : List Seated → ℕ
finished_by_all crew = sum_by (λ (x : Seated). finished_by x.worker) crew

-- Workers that have finished as many packets as there are have a full count.
abbrev pub FinishedCrewsAreFull : Type 0
FinishedCrewsAreFull =
    (t : StageView) (crew : List Seated) (queues apps n : ℕ) → AreWorking t crew queues apps
    → n ≤ finished_by_all crew
    → IsFull crew (length t.shared.given.homes) t.shared.given.txs n
