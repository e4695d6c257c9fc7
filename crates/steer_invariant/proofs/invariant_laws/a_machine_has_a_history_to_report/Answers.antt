use Rattle.steer_invariant.proofs.Invariant.HistoryLemmas.{held_is_reportable}
use Rattle.steer_invariant.proofs.invariant_laws.a_machine_has_a_history_to_report.Goals as goal

pub returns : goal.returns
returns c = held_is_reportable
