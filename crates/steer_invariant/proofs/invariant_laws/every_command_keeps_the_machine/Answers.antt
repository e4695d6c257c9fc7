use Rattle.steer_invariant.proofs.Invariant.CommandLemmas.{held_set}
use Rattle.steer_invariant.proofs.Invariant.RowLemmas.{held_answered}
use Rattle.steer_invariant.proofs.invariant_laws.every_command_keeps_the_machine.Goals as goal

pub returns : goal.returns
returns c = record { done = held_set; listed = held_answered }
