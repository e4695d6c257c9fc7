use Rattle.steer_properties.proofs.Histories.AtRestLemmas.{seeded_replays_are_good}
use Rattle.steer_properties.proofs.Histories.AtRestLemmas.{swept_runs_are_good}
use Rattle.steer_properties.proofs.laws.swept_replays_are_good_at_rest.Goals as goal

pub returns : goal.returns
returns c = record { runs = swept_runs_are_good; seeded = seeded_replays_are_good }
