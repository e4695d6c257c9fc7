use Rattle.run_example.proofs.MovingLemmas as moving
use Rattle.run_example.proofs.laws.moving_run_exists.Goals as goal

pub returns : goal.returns
returns c = moving.moving_run_exists
