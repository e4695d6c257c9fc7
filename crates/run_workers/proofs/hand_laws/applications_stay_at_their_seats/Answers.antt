use Rattle.run_workers.proofs.Hands.ServerLaws.{applications_stay}
use Rattle.run_workers.proofs.hand_laws.applications_stay_at_their_seats.Goals as goal

pub returns : goal.returns
returns c = applications_stay
