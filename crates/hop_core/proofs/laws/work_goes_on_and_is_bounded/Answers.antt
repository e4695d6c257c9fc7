use Rattle.hop_core.proofs.Work.{work_goes_on, work_is_bounded, work_stays}
use Rattle.hop_core.proofs.laws.work_goes_on_and_is_bounded.Goals as goal

pub returns-clause-on : goal.returns-clause-on
returns-clause-on c = work_goes_on

pub returns-clause-stays : goal.returns-clause-stays
returns-clause-stays c = work_stays

pub returns-clause-bounded : goal.returns-clause-bounded
returns-clause-bounded c = work_is_bounded
