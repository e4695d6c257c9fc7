use Rattle.run_crew.proofs.FrontLemmas.{fronts_are_chosen}
use Rattle.run_crew.proofs.QuietLemmas.{controllers_touch_no_lane}
use Rattle.run_crew.proofs.WithinLemmas.{arrivals_are_within}
use Rattle.run_crew.proofs.laws.threads_keep_their_parts.Goals as goal

pub returns-clause-lanes : goal.returns-clause-lanes
returns-clause-lanes c = controllers_touch_no_lane

pub returns-clause-within : goal.returns-clause-within
returns-clause-within c = arrivals_are_within

pub returns-clause-fronts : goal.returns-clause-fronts
returns-clause-fronts c = fronts_are_chosen
