use Rattle.board_api.specs.Laws.Puts.{DropsHaveCauses, DropsRise}
use Rattle.board_api.proofs.Endings.{at_closings}
use Rattle.board_api.proofs.OwnDrops.{drops_have_causes, drops_rise}
use Rattle.board_api.proofs.laws.drops_have_their_causes.Goals as goal

pub returns-clause-causes : goal.returns-clause-causes
returns-clause-causes c =
    at_closings DropsHaveCauses (λ about order fit lawful. drops_have_causes about order lawful)

pub returns-clause-rise : goal.returns-clause-rise
returns-clause-rise c =
    at_closings DropsRise (λ about order fit lawful. drops_rise about order lawful)
