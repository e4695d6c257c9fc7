use Rattle.run_crew.proofs.RoundLemmas.{crews_go_on, crews_play_on}
use Rattle.run_crew.proofs.laws.crews_go_on.Goals as goal

pub returns : goal.returns
returns c = record { keep = crews_go_on; play = crews_play_on }
