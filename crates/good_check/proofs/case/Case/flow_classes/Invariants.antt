use Rattle.std.proofs.Common.{ℕ, ◌<◌, ◌≤◌}
use Rattle.dev_flow_table.specs.declared.table.TheConstants.{MAX_EXACT_CLASSES}
use Rattle.steer_model.specs.State.Setup.{flow_number_of}
use Rattle.good_check.proofs.case.Case.flow_classes.Given as goal

abbrev pub invariant-loop-x : goal.invariant-loop-x
invariant-loop-x l = record {
  some : 1 ≤ l.classes;
  few : l.classes ≤ MAX_EXACT_CLASSES;
  above : (y : ℕ) → y < l.x → flow_number_of l.self.given.now y < l.classes;
}
