use Rattle.run_crew.proofs.RunLemmas.{RecordLaws, ended_runs_are_runs}
use Rattle.run_crew.proofs.laws.ended_runs_are_runs.Goals as goal

pub returns : goal.returns
returns c =
    let laws : RecordLaws = record {
      pollers = c.pollers_are_coupled.ensures;
      applications = c.applications_are_coupled.ensures;
      workers = c.stores_are_meant.ensures.worker;
      each = c.stores_are_meant.ensures.each;
    } in
    ended_runs_are_runs laws
