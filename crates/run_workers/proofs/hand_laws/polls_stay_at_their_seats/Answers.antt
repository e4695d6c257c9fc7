use Rattle.run_workers.proofs.Hands.StayLemmas.{polls_stay}
use Rattle.run_workers.proofs.hand_laws.polls_stay_at_their_seats.Goals as goal

pub returns : goal.returns
returns c = polls_stay
