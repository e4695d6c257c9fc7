use Rattle.run_controller.proofs.LoopLemmas.{Cleared}
use Rattle.run_controller.proofs.sockets.clear_sockets.Given as goal

abbrev pub invariant-loop-entry : goal.invariant-loop-entry
invariant-loop-entry l = Cleared l.entry l.fn.hint l.hint
