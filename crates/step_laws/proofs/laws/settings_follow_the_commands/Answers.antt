use Rattle.step_laws.proofs.Origins.SettingLemmas.{settings_follow}
use Rattle.step_laws.proofs.laws.settings_follow_the_commands.Goals as goal

pub returns : goal.returns
returns c = settings_follow
