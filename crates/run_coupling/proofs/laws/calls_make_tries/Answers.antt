use Rattle.run_coupling.proofs.Tries.CallLemmas.{busy_calls, done_calls, inside_calls}
use Rattle.run_coupling.proofs.laws.calls_make_tries.Goals as goal

pub returns-clause-done : goal.returns-clause-done
returns-clause-done c = done_calls

pub returns-clause-busy : goal.returns-clause-busy
returns-clause-busy c = busy_calls

pub returns-clause-inside : goal.returns-clause-inside
returns-clause-inside c = inside_calls
