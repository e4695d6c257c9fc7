use Rattle.step_laws.proofs.Origins.SettingWriteLemmas.{values_are_last_writes}
use Rattle.step_laws.proofs.laws.a_value_in_force_is_the_last_write.Goals as goal

pub returns : goal.returns
returns c = values_are_last_writes
