use Rattle.steer_invariant.proofs.Invariant.StepLemmas.{replays_are_reportable, runs_are_reportable}
use Rattle.steer_invariant.proofs.invariant_laws.every_replay_can_be_reported.Goals as goal

pub returns : goal.returns
returns c = record { runs = runs_are_reportable; replays = replays_are_reportable }
