use Rattle.run_coupling.proofs.Runs.CodeLemmas.{shared_codes}
use Rattle.run_coupling.proofs.laws.shared_codes_exist.Goals as goal

pub returns : goal.returns
returns c = shared_codes
